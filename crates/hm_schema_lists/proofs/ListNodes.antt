-- The trees of a list node are the lists of which the items are in the set of its first item.
use Rattle.std.proofs.Common.{◌≡◌, ◌⊎◌, ℕ, zero, suc, ◌<◌, [], Some, All, Any, sym, subst, ◌∙◌, arith, inl, inr}
use Rattle.std.proofs.lemmas.Option.{same_Some, none-some}
use Rattle.hm_tree.specs.Names.{Name}
use Rattle.hm_tree.specs.Nodes.{Tree, below, depth}
use Rattle.hm_tree.proofs.Depths.{depth_below}
use Rattle.hm_schema.specs.declared.node.Shape.{Shape}
use Rattle.hm_schema.specs.Values.{Names, NodeOver, child_of}
use Rattle.hm_schema.specs.Permitted.{Fits, names_of}
use Rattle.hm_schema.specs.WellFormed.{IsWellFormedShape}
use Rattle.hm_tree_parts.specs.Lists.{head, tail, IsItem, ListOf, no_items, an_item}
use Rattle.hm_tree_parts.proofs.OneList.{below-tail, below-nil}
use Rattle.hm_tree_parts.specs.Lists.{SomeItems}
use Rattle.hm_schema.specs.Standing.{IsBelow, Stands, Alike}
use Rattle.hm_schema_lists.specs.Plain.{exact_shape}
use Rattle.hm_schema_lists.specs.ListNodes.{no_names, item_names, empty_shape, item_shape, IsListNode, IsItemNode}
use Rattle.hm_schema.proofs.Elements.{any_all, any_some}
use Rattle.hm_schema_lists.proofs.ListTrees.{nil_names, names_nil, item_named, name_of, item_first, item_rest, names_item}
use Rattle.hm_schema_lists.proofs.Plain.{shape_exact, exact_fits, fits_exact, exact_stands, stands_exact}
use Rattle.hm_schema.proofs.Reshaped.{no_twins}

-- ---- the trees of an item and a rest

module _ {I : Type 0} (In : I → Tree → Type 0) (n : NodeOver I) where
  -- what may stand below a name that leads to one set
  module _ (k : Name) (i : I) (is : child_of n k ≡ Some i) (x : Tree) where
    below_in : IsBelow In n k x → In i x
    below_in b = subst (λ i. In i x) (same_Some b.child i (sym b.is ∙ is)) b.inside

    in_below : In i x → IsBelow In n k x
    in_below h = record { child = i; is = is; inside = h }

  module _ (first rest : I) (first_is : child_of n head ≡ Some first) (rest_is : child_of n tail ≡ Some rest) where
    -- an item of the first set, with what is of the other
    record ItemAt (t : Tree) : Type 0 where
      item : Tree
      left : Tree
      is : IsItem item left t
      item_in : In first item
      left_in : In rest left

    item_at : (t : Tree) → Stands In n t → names_of t ≡ item_names → ItemAt t
    item_at t h e =
        let x = item_first t e in
        let r = item_rest t e in
        record {
          item = x.0;
          left = r.0;
          is = names_item t e;
          item_in = below_in head first first_is x.0 (h.children head x.0 x.1);
          left_in = below_in tail rest rest_is r.0 (h.children tail r.0 r.1);
        }

    item_children : (x r t : Tree) → IsItem x r t → In first x → In rest r → (k : Name) (y : Tree) → below k t ≡ Some y → IsBelow In n k y
    item_children x r t e h g k y at = elim (name_of t x r e k y at) [
      | inl f ↦ subst (λ k. IsBelow In n k y) (sym f.0) (subst (IsBelow In n head) f.1 (in_below head first first_is x h))
      | inr f ↦ subst (λ k. IsBelow In n k y) (sym f.0) (subst (IsBelow In n tail) f.1 (in_below tail rest rest_is r g))
    ]

  -- a tree of the names of one of the node's shapes
  shape_stands : n.twins ≡ [] → All (IsWellFormedShape n) n.shapes → (names : Names) → Any (λ a. a ≡ exact_shape names) n.shapes → (t : Tree)
      → names_of t ≡ names → ((k : Name) (x : Tree) → below k t ≡ Some x → IsBelow In n k x) → Stands In n t
  shape_stands plain well names some t e all = record {
    permitted = any_all (λ a. a ≡ exact_shape names) (IsWellFormedShape n) (λ a. Fits n a (names_of t))
        (λ a w is. subst (λ a. Fits n a (names_of t)) (sym is)
        (fits_exact n names (names_of t) (exact_shape names) (subst (IsWellFormedShape n) is w) (shape_exact names) e)) n.shapes well some;
    twins = no_twins n t plain;
    children = all;
  }

-- ---- lists

module _ {I : Type 0} (In : I → Tree → Type 0) (R : I → I → Type 0) (same : (i j : I) → R i j → Alike (In i) (In j)) (s : I) (n : NodeOver I)
    (l : IsListNode R s n) (well : All (IsWellFormedShape n) n.shapes) (here : Alike (In s) (Stands In n)) where
  into_list : (d : ℕ) (t : Tree) → depth t < d → Stands In n t → ListOf (In l.first) t
  into_list zero t lt h = absurd (omega arith)
  into_list (suc d) t lt h =
      any_some (λ a. Fits n a (names_of t)) (λ a. (a ≡ empty_shape) ⊎ (a ≡ item_shape)) (go (into_list d)) n.shapes l.shapes h.permitted
    where
      names_are : (names : Names) (a : Shape) → a ≡ exact_shape names → Fits n a (names_of t) → names_of t ≡ names
      names_are names a e f = exact_fits n names (names_of t) (exact_shape names) (shape_exact names) (subst (λ a. Fits n a (names_of t)) e f)

      go : ((t : Tree) → depth t < d → Stands In n t → ListOf (In l.first) t) → (a : Shape) → (a ≡ empty_shape) ⊎ (a ≡ item_shape)
          → Fits n a (names_of t) → ListOf (In l.first) t
      go shorter a (inl e) f = no_items (names_nil t (names_are no_names a e f))
      go shorter a (inr e) f =
          let i = item_at In n l.first l.rest l.first_is l.rest_is t h (names_are item_names a e f) in
          an_item i.is i.item_in (shorter i.left
          (let less = depth_below tail t i.left (below-tail i.item i.left t i.is) in omega arith)
          (here.into i.left ((same l.rest s l.itself).into i.left i.left_in)))

  from_list_of : {t : Tree} → ListOf (In l.first) t → Stands In n t
  from_list_of (no_items {t = t} e) = shape_stands In n l.plain well no_names l.empty t (nil_names t e)
      (λ k x at. absurd (none-some x (sym (below-nil t e k) ∙ at)))
  from_list_of (an_item {x = x} {r = r} {t = t} e h rest) = shape_stands In n l.plain well item_names l.item t (item_named t x r e)
      (item_children In n l.first l.rest l.first_is l.rest_is x r t e h
      ((same l.rest s l.itself).from r (here.from r (from_list_of rest))))

  pub list_set : Alike (Stands In n) (ListOf (In l.first))
  list_set = record { into = λ t h. into_list (suc (depth t)) t (omega arith) h; from = λ t h. from_list_of h }

list_weaker : (C D : Tree → Type 0) → ((t : Tree) → C t → D t) → {t : Tree} → ListOf C t → ListOf D t
list_weaker C D f (no_items e) = no_items e
list_weaker C D f (an_item {x = x} e h r) = an_item e (f x h) (list_weaker C D f r)

-- lists with an item at least
module _ {I : Type 0} (In : I → Tree → Type 0) (R : I → I → Type 0) (same : (i j : I) → R i j → Alike (In i) (In j)) (n list : NodeOver I)
    (l : IsItemNode R n list) (well : All (IsWellFormedShape list) list.shapes) (here : Alike (In l.rest) (Stands In list)) where
  items : Alike (Stands In list) (ListOf (In l.others.first))
  items = list_set In R same l.rest list l.others well here

  first_same : Alike (In l.others.first) (In l.first)
  first_same = same l.others.first l.first l.alike

  into_items : (t : Tree) → Stands In n t → SomeItems (In l.first) t
  into_items t h =
      let i = item_at In n l.first l.rest l.first_is l.rest_is t h (stands_exact In n item_names l.names t h) in
      record {
        first = i.item;
        rest = i.left;
        is = i.is;
        in_set = record {
          first = i.item_in;
          rest = list_weaker (In l.others.first) (In l.first) first_same.into (items.into i.left (here.into i.left i.left_in));
        };
      }

  from_items : (t : Tree) → SomeItems (In l.first) t → Stands In n t
  from_items t h = exact_stands In n item_names l.names t (item_named t h.first h.rest h.is)
      (item_children In n l.first l.rest l.first_is l.rest_is h.first h.rest t h.is h.in_set.first
      (here.from h.rest (items.from h.rest (list_weaker (In l.first) (In l.others.first) first_same.from h.in_set.rest))))

  pub some_items_set : Alike (Stands In n) (SomeItems (In l.first))
  some_items_set = record { into = into_items; from = from_items }
