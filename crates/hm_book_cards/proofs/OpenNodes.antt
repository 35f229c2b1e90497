-- Which trees stand at a node that lists no names, and at the nodes of texts.
use Rattle.std.proofs.Common.{◌≡◌, ℕ, ◌≤◌, Bool, true, false, cond, ◌&&◌, IsTrue, IfSome, IsUtf8, All, List, [], ◌∷◌, map, get_or, Option, Some, None, refl, sym, ap, subst, ◌∙◌, arith}
use Rattle.std.proofs.lemmas.Bool.{true≢false}
use Rattle.std.proofs.lemmas.Option.{same_Some, slice_get-get_or}
use Rattle.std.proofs.lemmas.List.Elements.{All-nil, All-cons, All-head, All-tail}
use Rattle.std.specs.FinSet.{FinSet, contains, retain, len}
use Rattle.hm_tree.specs.declared.class.Class.{Class}
use Rattle.hm_tree.specs.declared.class.Class.TheVariants.{Filled}
use Rattle.hm_tree.specs.Classes.{IsInClass}
use Rattle.hm_tree.specs.Names.{Name, name_cmp}
use Rattle.hm_tree.specs.Nodes.{Tree, node, edges, below, empty}
use Rattle.hm_tree.specs.NodeLaws.{node-edges, tree_unmarked}
use Rattle.hm_tree.specs.Sets.{ascending}
use Rattle.hm_tree.proofs.Sorted.{below_edge}
use Rattle.hm_tree.proofs.Utf8Names.{below_utf8}
use Rattle.hm_schema.specs.declared.node.NodeId.{NodeId}
use Rattle.hm_schema.specs.Values.{Names, SchemaValue, node_at, child_of}
use Rattle.hm_schema.specs.Permitted.{Fits, IsWithin, names_of, unlisted}
use Rattle.hm_schema.proofs.NamesOf.{kept, same_names, names_of-below, ascending-names_of, found_value}
use Rattle.hm_facts.proofs.Options.{is_there}
use Rattle.hm_schema_lists.specs.ListNodes.{empty_shape}
use Rattle.hm_schema.specs.Shapes.{RequiresTwin}
use Rattle.hm_schema.specs.Standing.{Stands, Alike}
use Rattle.hm_schema.proofs.Elements.{any_one, one_any, all_one}
use Rattle.hm_schema.proofs.StandingTrees.{alike_then, members_alike, Inside}
use Rattle.hm_schema_lists.proofs.Values.{empty_alike}
use Rattle.hm_book_cards.specs.Cards.{leaf, texts_tree, Suits}
use Rattle.hm_book_cards.specs.Books.{id, open_node, texts_node, empty_node}
use Rattle.hm_book_cards.proofs.TextTrees.{edges_texts, names_texts}
use Rattle.hm_book_cards.proofs.NodeShapes.{not_in_none, well_empty}

-- ---- a node that lists no names

and_true : (b : Bool) → (b && true) ≡ b
and_true true = refl
and_true false = refl

-- all names are unlisted there
all_unlisted : (names : Names) → retain names (λ k. true) ≡ names
all_unlisted names = same_names _ _ (λ q. kept (λ k. true) names q ∙ and_true (contains names q))

-- the names of a tree are of a class, so many at least and at most, and what stands below them is in a set
pub record IsOpen (In : NodeId → Tree → Type 0) (class : Class) (least : ℕ) (most : Option ℕ) (place : ℕ) (t : Tree) : Type 0 where
  pub classed : (k : Name) → IsTrue (contains (names_of t) k) → IsInClass class k
  pub least_is : least ≤ len (names_of t)
  pub most_is : IfSome most (λ m. len (names_of t) ≤ m)
  pub children : (k : Name) (x : Tree) → below k t ≡ Some x → In (id place) x

module _ (In : NodeId → Tree → Type 0) (class : Class) (least : ℕ) (most : Option ℕ) (place : ℕ) where
  abbrev here : Rattle.hm_schema.specs.Values.NodeValue
  here = open_node class least most place

  number : (t : Tree) → unlisted here (names_of t) ≡ len (names_of t)
  number t = ap len (all_unlisted (names_of t))

  open_stands : (t : Tree) → IsOpen In class least most place t → Stands In here t
  open_stands t h = record {
    permitted = any_one (λ a. Fits here a (names_of t)) _ (record {
      listed = record { required = λ k r. absurd (not_in_none k r); allowed = λ k at l. absurd (true≢false (sym l)) };
      others = λ k at off. h.classed k at;
      number = subst (IsWithin _) (sym (number t)) (record { least = h.least_is; most = h.most_is });
    });
    twins = All-nil _;
    children = λ k x at. record { child = id place; is = refl; inside = h.children k x at };
  }

  stands_open : (t : Tree) → Stands In here t → IsOpen In class least most place t
  stands_open t h =
      let f = one_any (λ a. Fits here a (names_of t)) _ h.permitted in
      let within = subst (IsWithin _) (number t) f.number in
      record {
        classed = λ k at. f.others k at refl;
        least_is = within.least;
        most_is = within.most;
        children = λ k x at. let b = h.children k x at in subst (λ i. In i x) (same_Some b.child (id place) (sym b.is)) b.inside;
      }

  pub open_alike : Alike (Stands In here) (IsOpen In class least most place)
  open_alike = record { into = stands_open; from = open_stands }

-- ---- the nodes of texts

-- a tree of texts, of which there are some
pub record HasTexts (many : Bool) (t : Tree) : Type 0 where
  pub texts : FinSet name_cmp
  pub suits : Suits many texts
  pub some : 1 ≤ len texts
  pub is : t ≡ texts_tree texts

-- edges to empty trees are known from their names
leaves : (es : List (Name × Tree)) → All (λ (e : Name × Tree). e.1 ≡ empty) es → es ≡ map leaf (map (λ (e : Name × Tree). e.0) es)
leaves [] all = refl
leaves (e ∷ es) all =
    λ i. (e.0, All-head (λ (e : Name × Tree). e.1 ≡ empty) e es all i) ∷ leaves es (All-tail (λ (e : Name × Tree). e.1 ≡ empty) e es all) i

all_leaves : (ks : List Name) → All (λ (e : Name × Tree). e.1 ≡ empty) (map leaf ks)
all_leaves [] = All-nil (λ (e : Name × Tree). e.1 ≡ empty)
all_leaves (k ∷ ks) = All-cons (λ (e : Name × Tree). e.1 ≡ empty) (leaf k) (map leaf ks) refl (all_leaves ks)

names_utf8 : (t : Tree) (k : Name) → IsTrue (contains (names_of t) k) → IsUtf8 k
names_utf8 t k at = let there = is_there (below k t) (sym (names_of-below t k) ∙ at) in below_utf8 t k there.0 there.1

module _ (s : SchemaValue) (empty_is : node_at s (id 4) ≡ Some empty_node) where
  below_texts : Alike (Inside s (id 4)) (λ t. t ≡ empty)
  below_texts = alike_then (members_alike s (id 4) empty_node empty_is)
      (empty_alike (Inside s) empty_node (all_one (λ a. a ≡ empty_shape) empty_shape refl) (omega arith) (well_empty 0).shapes
      (all_one (λ a. All (RequiresTwin a) []) empty_shape (All-nil (RequiresTwin empty_shape))))

  -- the bound of one text, or of many
  few : (many : Bool) (n : ℕ) → IfSome (cond many None (Some 1)) (λ m. n ≤ m) → many ≡ false → n ≤ 1
  few many n h one = subst (λ b. IfSome (cond b None (Some 1)) (λ m. n ≤ m)) one h

  bounded : (many : Bool) (n : ℕ) → (many ≡ false → n ≤ 1) → IfSome (cond many None (Some 1)) (λ m. n ≤ m)
  bounded true n h = tt
  bounded false n h = h refl

  texts_from : (many : Bool) (t : Tree) → IsOpen (Inside s) Filled 1 (cond many None (Some 1)) 4 t → HasTexts many t
  texts_from many t h =
      let all : All (λ (e : Name × Tree). e.1 ≡ empty) (edges t) = λ i d lt.
      below_texts.into (get_or (edges t) i d).1
      (h.children (get_or (edges t) i d).0 (get_or (edges t) i d).1
      (below_edge t i (get_or (edges t) i d).0 (get_or (edges t) i d).1 (slice_get-get_or (edges t) i d lt))) in
      record {
        texts = names_of t;
        suits = record { sound = names_utf8 t; filled = h.classed; few = few many (len (names_of t)) h.most_is };
        some = h.least_is;
        is = sym (node-edges t (tree_unmarked t)) ∙ ap node (leaves (edges t) all) ∙ ap (λ ks. node (map leaf ks)) (sym (ascending-names_of t));
      }

  texts_into : (many : Bool) (t : Tree) → HasTexts many t → IsOpen (Inside s) Filled 1 (cond many None (Some 1)) 4 t
  texts_into many t h =
      let names : names_of t ≡ h.texts = ap names_of h.is ∙ names_texts h.texts h.suits.sound in
      let all : All (λ (e : Name × Tree). e.1 ≡ empty) (edges t) =
      subst (All (λ (e : Name × Tree). e.1 ≡ empty)) (sym (ap edges h.is ∙ edges_texts h.texts h.suits.sound)) (all_leaves (ascending h.texts)) in
      record {
        classed = λ k at. h.suits.filled k (ap (λ s. contains s k) (sym names) ∙ at);
        least_is = subst (λ s. 1 ≤ len s) (sym names) h.some;
        most_is = bounded many (len (names_of t)) (λ one. subst (λ s. len s ≤ 1) (sym names) (h.suits.few one));
        children = λ k x at. below_texts.from x (found_value (λ k x. x ≡ empty) (edges t) all k x at);
      }

  -- the members at a node of texts
  pub texts_alike : (i : NodeId) (many : Bool) → node_at s i ≡ Some (texts_node many) → Alike (Inside s i) (HasTexts many)
  texts_alike i many here =
      alike_then (members_alike s i (texts_node many) here)
      (alike_then (open_alike (Inside s) Filled 1 (cond many None (Some 1)) 4) (record { into = texts_from many; from = texts_into many }))
