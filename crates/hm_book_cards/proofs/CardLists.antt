-- Which trees stand at nodes of lists.
use Rattle.std.proofs.Common.{◌≡◌, ◌≢◌, ℕ, ◌+◌, ◌⊎◌, All, List, [], ◌∷◌, Some, refl, sym, subst, ◌∙◌, arith, inl, inr}
use Rattle.std.proofs.lemmas.List.Elements.{All-nil, All-cons, All-head, All-tail}
use Rattle.hm_tree.specs.Names.{name_cmp}
use Rattle.hm_tree.specs.Nodes.{Tree}
use Rattle.hm_schema.specs.declared.node.NodeId.{NodeId}
use Rattle.hm_schema.specs.declared.node.Shape.{Shape}
use Rattle.hm_schema.specs.Values.{NodeValue, SchemaValue, node_at, child_of}
use Rattle.hm_tree_parts.specs.Lists.{head, tail, ListOf, no_items, an_item, HasItems, none_left, and_then}
use Rattle.hm_tree_parts.specs.Lists.{SomeItems}
use Rattle.hm_schema_lists.specs.ListNodes.{item_names, empty_shape, item_shape, IsListNode, IsItemNode}
use Rattle.hm_schema.specs.Standing.{Alike}
use Rattle.hm_schema.proofs.Elements.{at_head, in_tail, holds_to}
use Rattle.hm_schema_lists.proofs.ListNodes.{some_items_set}
use Rattle.hm_schema_lists.proofs.Plain.{exact_of}
use Rattle.hm_schema.proofs.StandingTrees.{alike_then, members_alike, Inside}
use Rattle.hm_book_cards.specs.Books.{id, list_node}
use Rattle.hm_book_cards.proofs.NodeShapes.{listed_names, more_shapes}

-- ---- lists with an item at least, by their items

pub record Items (C : Tree → Type 0) (t : Tree) : Type 0 where
  pub items : List Tree
  pub has : HasItems t items
  pub some : items ≢ []
  pub all : All C items

module _ (C D : Tree → Type 0) (same : Alike C D) where
  items_of : {t : Tree} → ListOf C t → (xs : List Tree) × HasItems t xs × All D xs
  items_of (no_items e) = ([], none_left e, All-nil D)
  items_of (an_item {x = x} e h r) = let rest = items_of r in (x ∷ rest.0, and_then e rest.1, All-cons D x rest.0 (same.into x h) rest.2)

  list_from : (xs : List Tree) (t : Tree) → HasItems t xs → All D xs → ListOf C t
  list_from [] t (none_left e) all = no_items e
  list_from (x ∷ xs) t (and_then {r = r} e h) all = an_item e (same.from x (All-head D x xs all)) (list_from xs r h (All-tail D x xs all))

  into_items : (t : Tree) → SomeItems C t → Items D t
  into_items t h =
      let rest = items_of h.in_set.rest in
      record {
        items = h.first ∷ rest.0;
        has = and_then h.is rest.1;
        some = λ e. let no : ⊥ = cc in no;
        all = All-cons D h.first rest.0 (same.into h.first h.in_set.first) rest.2;
      }

  from_items : (xs : List Tree) (t : Tree) → HasItems t xs → xs ≢ [] → All D xs → SomeItems C t
  from_items [] t (none_left e) some all = absurd (some refl)
  from_items (x ∷ xs) t (and_then {r = r} e h) some all = record {
    first = x;
    rest = r;
    is = e;
    in_set = record { first = same.from x (All-head D x xs all); rest = list_from xs r h (All-tail D x xs all) };
  }

  pub items_alike : Alike (SomeItems C) (Items D)
  items_alike = record { into = into_items; from = λ t h. from_items h.items t h.has h.some h.all }

-- ---- the nodes

abbrev IsSame : NodeId → NodeId → Type 0
IsSame i j = i ≡ j

head_is : (shapes : List Shape) (item rest : ℕ) → child_of (list_node shapes item rest) head ≡ Some (id item)
unfolding name_cmp
head_is shapes item rest = refl

tail_is : (shapes : List Shape) (item rest : ℕ) → child_of (list_node shapes item rest) tail ≡ Some (id rest)
unfolding name_cmp
tail_is shapes item rest = refl

-- a node of lists with an item at least, and that of the others of a list
module _ (s : SchemaValue) (item rest : ℕ) where
  abbrev some : NodeValue
  some = list_node (item_shape ∷ []) item rest

  abbrev more : NodeValue
  more = list_node (empty_shape ∷ item_shape ∷ []) item rest

  abbrev more_list : IsListNode IsSame (id rest) more
  more_list = record {
    plain = refl;
    shapes = All-cons (λ a. (a ≡ empty_shape) ⊎ (a ≡ item_shape)) empty_shape (item_shape ∷ []) (inl refl)
        (All-cons (λ a. (a ≡ empty_shape) ⊎ (a ≡ item_shape)) item_shape [] (inr refl) (All-nil (λ a. (a ≡ empty_shape) ⊎ (a ≡ item_shape))));
    empty = holds_to (λ a. a ≡ empty_shape) (at_head {xs = item_shape ∷ []} refl);
    item = holds_to (λ a. a ≡ item_shape) (in_tail (at_head {xs = []} refl));
    first = id item;
    first_is = head_is (empty_shape ∷ item_shape ∷ []) item rest;
    rest = id rest;
    rest_is = tail_is (empty_shape ∷ item_shape ∷ []) item rest;
    itself = refl;
  }

  abbrev some_list : IsItemNode IsSame some more
  some_list = record {
    names = exact_of some item_names refl refl (λ k h. sym (listed_names ((head, id item) ∷ (tail, id rest) ∷ []) k) ∙ h);
    first = id item;
    first_is = head_is (item_shape ∷ []) item rest;
    rest = id rest;
    rest_is = tail_is (item_shape ∷ []) item rest;
    others = more_list;
    alike = refl;
  }

  same : (i j : NodeId) → i ≡ j → Alike (Inside s i) (Inside s j)
  same i j e = subst (λ j. Alike (Inside s i) (Inside s j)) e (record { into = λ t h. h; from = λ t h. h })

  -- the members at a node of lists with an item at least
  pub lists_alike : (i : NodeId) → node_at s i ≡ Some some → node_at s (id rest) ≡ Some more → (D : Tree → Type 0) → Alike (Inside s (id item)) D
      → Alike (Inside s i) (Items D)
  lists_alike i here there D are =
      alike_then (members_alike s i some here)
      (alike_then (some_items_set (Inside s) IsSame same some more some_list (more_shapes (item + rest + 1) item rest (omega arith) (omega arith))
      (members_alike s (id rest) more there))
      (items_alike (Inside s (id item)) D are))
