-- The nodes of the schema of books are well formed.
use Rattle.std.proofs.Common.{◌≡◌, ℕ, ◌+◌, ◌<◌, ◌≤◌, Bool, true, false, cond, not, ◌&&◌, T, IsTrue, IfSome, is_some, All, List, [], ◌∷◌, ◌++◌, length, map, Option, Some, None, refl, sym, ap, subst, ◌∙◌, arith, inl, inr}
use Rattle.std.proofs.lemmas.Bool.{true≢false, or_cases}
use Rattle.std.proofs.lemmas.Option.{none-some}
use Rattle.std.proofs.lemmas.List.{length-append}
use Rattle.std.proofs.lemmas.List.Elements.{All-nil, All-cons}
use Rattle.std.specs.Ordering.{is_lt}
use Rattle.std.specs.FinMap.{is_sorted, find}
use Rattle.std.specs.FinMap.Entries.{is_some-find}
use Rattle.std.specs.FinSet.{contains, from_list, contains-from_list}
use Rattle.hm_tree.specs.Names.{Name, name_cmp}
use Rattle.hm_tree.specs.Nodes.{below_all}
use Rattle.hm_tree.proofs.Sorted.{name_total}
use Rattle.hm_schema.specs.declared.node.Node.{Node}
use Rattle.hm_schema.specs.declared.node.NodeId.{NodeId}
use Rattle.hm_schema.specs.declared.node.Shape.{Shape}
use Rattle.hm_schema.specs.Values.{Names, NodeValue, node_value, schema_value, is_listed}
use Rattle.hm_schema.specs.WellFormed.{IsWellFormedShape, IsWellFormedNode, IsWellFormed}
use Rattle.hm_tree_parts.specs.Lists.{head, tail}
use Rattle.hm_schema_lists.specs.ListNodes.{no_names, item_names, empty_shape, item_shape}
use Rattle.hm_schema_lists.specs.Plain.{exact_shape}
use Rattle.hm_schema_lists.proofs.Plain.{shape_exact}
use Rattle.hm_book_cards.specs.Cards.{Shown}
use Rattle.hm_book_cards.specs.Books.{id, open_node, list_node, texts_node, empty_node, kinds, texts_nodes, texts_place, card_node, more_place, book_nodes, book_schema}
use Rattle.hm_tree.specs.declared.class.Class.TheVariants.{Filled}
use Rattle.hm_tree.specs.declared.class.Class.{Class}

-- ---- shapes

pub not_in_none : (k : Name) → IsTrue (contains no_names k) → ⊥
not_in_none k h = true≢false (sym h ∙ contains-from_list name_total [] k)

-- the names that edges list
pub listed_names : {X : Type 0} (es : List (Name × X)) (k : Name) → contains (from_list {R = name_cmp} (map (λ e. e.0) es)) k ≡ is_some (find name_cmp k es)
listed_names es k = contains-from_list name_total (map (λ e. e.0) es) k ∙ sym (is_some-find name_cmp k es)

pub well_exact : (n : NodeValue) (names : Names) → ((k : Name) → IsTrue (contains names k) → IsTrue (is_listed n k)) → IsWellFormedShape n (exact_shape names)
well_exact n names lists = record {
  listed = λ k h. lists k ((shape_exact names).only k h);
  apart = λ k h. contains-from_list name_total [] k;
  ordered = omega arith;
  none = λ h. (refl, refl);
}

pub well_open : (class : Class) (count least place : ℕ) (most : Option ℕ) → place < count → IfSome most (λ m. least ≤ m) → IsWellFormedNode count (open_node class least most place)
well_open class count least place most there ordered = record {
  ascending = tt;
  children = All-nil (λ (c : Name × NodeId). c.1.place < count);
  other = there;
  shapes = All-cons (IsWellFormedShape (open_node class least most place)) _ [] (record {
    listed = λ k h. elim (or_cases (contains no_names k) (contains no_names k) h) [ inl at ↦ absurd (not_in_none k at) | inr at ↦ absurd (not_in_none k at) ];
    apart = λ k h. contains-from_list name_total [] k;
    ordered = ordered;
    none = λ e. absurd (none-some _ (sym e));
  }) (All-nil _);
  some_shape = omega arith;
  twins = All-nil _;
}

-- ---- the nodes of lists

list_edges : ℕ → ℕ → List (Name × NodeId)
list_edges item rest = (head, id item) ∷ (tail, id rest) ∷ []

list_rises : (item rest : ℕ) → T (is_sorted name_cmp ((head, id item) ∷ (tail, id rest) ∷ []))
unfolding name_cmp
list_rises item rest = tt

module _ (count item rest : ℕ) (item_there : item < count) (rest_there : rest < count) (shapes : List Shape) where
  abbrev here : NodeValue
  here = list_node shapes item rest

  lists : (k : Name) → IsTrue (contains item_names k) → IsTrue (is_listed here k)
  lists k h = sym (listed_names ((head, id item) ∷ (tail, id rest) ∷ []) k) ∙ h

  pub well_item : IsWellFormedShape here item_shape
  well_item = well_exact here item_names lists

  pub well_bare : IsWellFormedShape here empty_shape
  well_bare = well_exact here no_names (λ k h. absurd (not_in_none k h))

  pub well_list : 0 < length shapes → All (IsWellFormedShape here) shapes → IsWellFormedNode count here
  well_list some well = record {
    ascending = list_rises item rest;
    children = All-cons (λ (c : Name × NodeId). c.1.place < count) (head, id item) ((tail, id rest) ∷ []) item_there
        (All-cons (λ (c : Name × NodeId). c.1.place < count) (tail, id rest) [] rest_there (All-nil (λ (c : Name × NodeId). c.1.place < count)));
    other = tt;
    shapes = well;
    some_shape = some;
    twins = All-nil _;
  }

module _ (count item rest : ℕ) (item_there : item < count) (rest_there : rest < count) where
  pub well_cards : IsWellFormedNode count (list_node (item_shape ∷ []) item rest)
  well_cards = well_list count item rest item_there rest_there (item_shape ∷ []) (omega arith)
      (All-cons (IsWellFormedShape (list_node (item_shape ∷ []) item rest)) item_shape [] (well_item count item rest item_there rest_there (item_shape ∷ []))
      (All-nil (IsWellFormedShape (list_node (item_shape ∷ []) item rest))))

  pub more_shapes : All (IsWellFormedShape (list_node (empty_shape ∷ item_shape ∷ []) item rest)) (empty_shape ∷ item_shape ∷ [])
  more_shapes =
      let n = list_node (empty_shape ∷ item_shape ∷ []) item rest in
      All-cons (IsWellFormedShape n) empty_shape (item_shape ∷ []) (well_bare count item rest item_there rest_there (empty_shape ∷ item_shape ∷ []))
      (All-cons (IsWellFormedShape n) item_shape [] (well_item count item rest item_there rest_there (empty_shape ∷ item_shape ∷ [])) (All-nil (IsWellFormedShape n)))

  pub well_more : IsWellFormedNode count (list_node (empty_shape ∷ item_shape ∷ []) item rest)
  well_more = well_list count item rest item_there rest_there (empty_shape ∷ item_shape ∷ []) (omega arith) more_shapes

-- ---- the nodes of texts

pub well_empty : (count : ℕ) → IsWellFormedNode count empty_node
well_empty count = record {
  ascending = tt;
  children = All-nil _;
  other = tt;
  shapes = All-cons (IsWellFormedShape empty_node) empty_shape [] (well_exact empty_node no_names (λ k h. absurd (not_in_none k h))) (All-nil _);
  some_shape = omega arith;
  twins = All-nil _;
}

one_at_most : (many : Bool) → IfSome (cond many None (Some 1)) (λ m. 1 ≤ m)
one_at_most true = tt
one_at_most false = omega arith

well_texts : (count : ℕ) (many : Bool) → 4 < count → IsWellFormedNode count (texts_node many)
well_texts count many there = well_open Filled count 1 4 (cond many None (Some 1)) there (one_at_most many)

module _ (count : ℕ) (more : NodeValue) (well : IsWellFormedNode count more) where
  others_formed : 4 < count → (ks : List Bool) → All (IsWellFormedNode count) (map texts_node ks ++ more ∷ [])
  others_formed there [] = All-cons (IsWellFormedNode count) more [] well (All-nil (IsWellFormedNode count))
  others_formed there (k ∷ ks) =
      All-cons (IsWellFormedNode count) (texts_node k) (map texts_node ks ++ more ∷ []) (well_texts count k there) (others_formed there ks)

  texts_formed : (ks : List Bool) → 3 + length (texts_nodes ks) < count → All (IsWellFormedNode count) (texts_nodes ks ++ more ∷ [])
  texts_formed [] there = All-cons (IsWellFormedNode count) more [] well (All-nil (IsWellFormedNode count))
  texts_formed (k ∷ ks) there =
      let four : 4 < count = omega arith in
      All-cons (IsWellFormedNode count) (texts_node k) (empty_node ∷ (map texts_node ks ++ more ∷ [])) (well_texts count k four)
      (All-cons (IsWellFormedNode count) empty_node (map texts_node ks ++ more ∷ []) (well_empty count) (others_formed four ks))

-- ---- the node of cards

place_there : (ks : List Bool) (many : Bool) → texts_place ks many ≤ 3 + length (texts_nodes ks)
place_there [] many = omega arith
place_there (f ∷ ks) many = go (cond f many (not many))
  where
    go : (b : Bool) → cond b 3 5 ≤ 3 + length (texts_nodes (f ∷ ks))
    go true = omega arith
    go false = omega arith

module _ (ks : List Bool) where
  abbrev pub edge : Name × Bool → Name × NodeId
  edge s = (s.0, id (texts_place ks s.1))

  below_edges : (n : Name) (shown : Shown) → below_all n (map edge shown) ≡ below_all n shown
  below_edges n [] = refl
  below_edges n (s ∷ shown) = λ i. is_lt (name_cmp n s.0) && below_edges n shown i

  edges_rise : (shown : Shown) → is_sorted name_cmp (map edge shown) ≡ is_sorted name_cmp shown
  edges_rise [] = refl
  edges_rise (s ∷ shown) = λ i. below_edges s.0 shown i && edges_rise shown i

  pub edge_names : (shown : Shown) → map (λ (c : Name × NodeId). c.0) (map edge shown) ≡ map (λ (s : Name × Bool). s.0) shown
  edge_names [] = refl
  edge_names (s ∷ shown) = λ i. s.0 ∷ edge_names shown i

  edges_there : (count : ℕ) → 3 + length (texts_nodes ks) < count → (shown : Shown) → All (λ (c : Name × NodeId). c.1.place < count) (map edge shown)
  edges_there count there [] = All-nil (λ (c : Name × NodeId). c.1.place < count)
  edges_there count there (s ∷ shown) =
      All-cons (λ (c : Name × NodeId). c.1.place < count) (edge s) (map edge shown) (let le = place_there ks s.1 in omega arith) (edges_there count there shown)

-- the names that a card may have are those that its node lists
pub card_lists : (shown : Shown) (k : Name) → contains (from_list {R = name_cmp} (map (λ (s : Name × Bool). s.0) shown)) k ≡ is_listed (card_node shown) k
card_lists shown k =
    ap (λ ks. contains (from_list {R = name_cmp} ks) k) (sym (edge_names (kinds shown) shown)) ∙ listed_names (map (edge (kinds shown)) shown) k

well_card : (count : ℕ) (shown : Shown) → T (is_sorted name_cmp shown) → more_place shown < count → IsWellFormedNode count (card_node shown)
well_card count shown rise there = record {
  ascending = subst T (sym (edges_rise (kinds shown) shown)) rise;
  children = edges_there (kinds shown) count there shown;
  other = tt;
  shapes = All-cons (IsWellFormedShape (card_node shown)) _ [] (record {
    listed = λ k h. elim (or_cases (contains no_names k) (contains (from_list {R = name_cmp} (map (λ (s : Name × Bool). s.0) shown)) k) h) [
      | inl at ↦ absurd (not_in_none k at)
      | inr at ↦ sym (card_lists shown k) ∙ at
    ];
    apart = λ k h. absurd (not_in_none k h);
    ordered = omega arith;
    none = λ e. (refl, refl);
  }) (All-nil _);
  some_shape = omega arith;
  twins = All-nil _;
}

-- ---- the schema

pub count_nodes : (shown : Shown) → length (book_nodes shown) ≡ more_place shown + 1
count_nodes shown =
    let more = length-append (texts_nodes (kinds shown)) (list_node (empty_shape ∷ item_shape ∷ []) 2 (more_place shown) ∷ []) in
    omega (arith, more)

pub formed : (shown : Shown) → T (is_sorted name_cmp shown) → IsWellFormed (book_schema shown)
formed shown rise =
    let nodes = book_nodes shown in
    let more = list_node (empty_shape ∷ item_shape ∷ []) 2 (more_place shown) in
    let texts = texts_nodes (kinds shown) ++ more ∷ [] in
    let count = length nodes in
    let all = count_nodes shown in
    let there : more_place shown < count = omega (arith, all) in
    let two : 2 < count = omega (arith, all) in
    record {
      nodes = All-cons (IsWellFormedNode count) (open_node Filled 0 None 1) (list_node (item_shape ∷ []) 2 (more_place shown) ∷ card_node shown ∷ texts)
          (well_open Filled count 0 1 None (omega (arith, all)) tt)
          (All-cons (IsWellFormedNode count) (list_node (item_shape ∷ []) 2 (more_place shown)) (card_node shown ∷ texts)
          (well_cards count 2 (more_place shown) two there)
          (All-cons (IsWellFormedNode count) (card_node shown) texts (well_card count shown rise there)
          (texts_formed count more (well_more count 2 (more_place shown) two there) (kinds shown) there)));
      root = omega (arith, all);
    }

pub nodes_formed : (nodes : List Node) (shown : Shown) → T (is_sorted name_cmp shown) → map node_value nodes ≡ book_nodes shown
    → IsWellFormed (schema_value nodes (id 0))
nodes_formed nodes shown rise same = subst (λ ns. IsWellFormed (record { nodes = ns; root = id 0 })) (sym same) (formed shown rise)
