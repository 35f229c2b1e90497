-- Which trees stand at the node of items: those of one edge, to a folder or to a link.
use Rattle.std.proofs.Common.{◌≡◌, ◌⊎◌, inl, inr, ℕ, Bool, true, false, cond, IsTrue, [], ◌∷◌, Some, None, refl, sym, ap, subst, ◌∙◌, arith}
use Rattle.std.proofs.lemmas.Option.{same_Some, none-some}
use Rattle.std.proofs.lemmas.List.Elements.{All-nil, All-cons}
use Rattle.std.specs.FinMap.{find}
use Rattle.std.specs.FinSet.{contains, contains-from_list}
use Rattle.hm_tree.specs.Names.{Name, name_cmp}
use Rattle.hm_tree.specs.Nodes.{Tree, below}
use Rattle.hm_tree.proofs.Sorted.{name_total}
use Rattle.hm_tree.proofs.NameSets.{tied_one}
use Rattle.hm_schema.specs.declared.node.Shape.{Shape}
use Rattle.hm_schema.specs.Values.{is_listed, child_of}
use Rattle.hm_schema.specs.Permitted.{Fits, names_of}
use Rattle.hm_schema.specs.WellFormed.{IsWellFormedShape}
use Rattle.hm_tree_parts.specs.Edges.{IsEdge}
use Rattle.hm_tree_parts.proofs.OneEdge.{below-edge}
use Rattle.hm_schema.specs.OneName.{alone, is}
use Rattle.hm_schema.proofs.OneName.{in_alone}
use Rattle.hm_schema_lists.specs.Plain.{exact_shape}
use Rattle.hm_schema.specs.Standing.{Stands, Alike, IsBelow}
use Rattle.hm_schema.proofs.Elements.{any_some, at_head, in_tail, holds_to}
use Rattle.hm_schema_lists.proofs.Plain.{exact_fits, fits_exact, shape_exact, edge_names, names_edge}
use Rattle.hm_schema.proofs.StandingTrees.{alike_then, members_alike, Inside}
use Rattle.hm_book_cards.specs.Books.{id}
use Rattle.hm_marks.specs.FolderTrees.{folder_name, url_name}
use Rattle.hm_marks_schema.specs.Schema.{item_node, marks_schema}
use Rattle.hm_marks_schema.specs.Members.{IsAt, IsItemOf}

folder_leads : child_of item_node folder_name ≡ Some (id 1)
unfolding name_cmp
folder_leads = refl

url_leads : child_of item_node url_name ≡ Some (id 4)
unfolding name_cmp
url_leads = refl

folder_listed : is_listed item_node folder_name ≡ true
unfolding name_cmp
folder_listed = refl

url_listed : is_listed item_node url_name ≡ true
unfolding name_cmp
url_listed = refl

-- one of the two names, and the place that it leads to
module _ (m : Name) (place : ℕ) (leads : child_of item_node m ≡ Some (id place)) (listed : is_listed item_node m ≡ true) where
  only_listed : (k : Name) → IsTrue (contains (alone m) k) → IsTrue (is_listed item_node k)
  only_listed k at = ap (is_listed item_node) (tied_one k m (sym (in_alone m k) ∙ at)) ∙ listed

  well : IsWellFormedShape item_node (exact_shape (alone m))
  well = record {
    listed = λ k h. only_listed k ((shape_exact (alone m)).only k h);
    apart = λ k h. contains-from_list name_total [] k;
    ordered = omega arith;
    none = λ h. (refl, refl);
  }

  to_edge : (t : Tree) → Stands (Inside marks_schema) item_node t → Fits item_node (exact_shape (alone m)) (names_of t) → (x : Tree) × IsEdge m x t × IsAt place x
  to_edge t h fits =
      let x = names_edge m t (exact_fits item_node (alone m) (names_of t) (exact_shape (alone m)) (shape_exact (alone m)) fits) in
      let b = h.children m x.0 (below-edge m x.0 t x.1) in
      (x.0, x.1, subst (λ i. Inside marks_schema i x.0) (same_Some b.child (id place) (sym b.is ∙ leads)) b.inside)

  fits_edge : (t x : Tree) → IsEdge m x t → Fits item_node (exact_shape (alone m)) (names_of t)
  fits_edge t x e = fits_exact item_node (alone m) (names_of t) (exact_shape (alone m)) well (shape_exact (alone m)) (edge_names m t x e)

  edge_below : (t x : Tree) → IsEdge m x t → IsAt place x → (k : Name) (z : Tree) → below k t ≡ Some z → IsBelow (Inside marks_schema) item_node k z
  edge_below t x e b k z at = go k z (is m k) refl (sym (ap (find name_cmp k) e) ∙ at)
    where
      go : (k : Name) (z : Tree) (g : Bool) → is m k ≡ g → cond g (Some x) None ≡ Some z → IsBelow (Inside marks_schema) item_node k z
      go k z true g at = record { child = id place; is = ap (child_of item_node) (tied_one k m g) ∙ leads; inside = subst (IsAt place) (same_Some x z at) b }
      go k z false g at = absurd (none-some z at)

abbrev IsItem : Tree → Type 0
IsItem t = IsItemOf (IsAt 1) (IsAt 4) t

abbrev Either : Shape → Type 0
Either a = (a ≡ exact_shape (alone folder_name)) ⊎ (a ≡ exact_shape (alone url_name))

stands_item : (t : Tree) → Stands (Inside marks_schema) item_node t → IsItem t
stands_item t h =
    any_some (λ a. Fits item_node a (names_of t)) Either (λ a e f. go a e f) item_node.shapes
    (All-cons Either (exact_shape (alone folder_name)) (exact_shape (alone url_name) ∷ []) (inl refl)
    (All-cons Either (exact_shape (alone url_name)) [] (inr refl) (All-nil Either)))
    h.permitted
  where
    go : (a : Shape) → Either a → Fits item_node a (names_of t) → IsItem t
    go a (inl e) f = inl (to_edge folder_name 1 folder_leads folder_listed t h (subst (λ b. Fits item_node b (names_of t)) e f))
    go a (inr e) f = inr (to_edge url_name 4 url_leads url_listed t h (subst (λ b. Fits item_node b (names_of t)) e f))

item_stands : (t : Tree) → IsItem t → Stands (Inside marks_schema) item_node t
item_stands t (inl f) = record {
  permitted = holds_to (λ a. Fits item_node a (names_of t)) (at_head {xs = exact_shape (alone url_name) ∷ []} (fits_edge folder_name 1 folder_leads folder_listed t f.0 f.1));
  twins = All-nil _;
  children = edge_below folder_name 1 folder_leads folder_listed t f.0 f.1 f.2;
}
item_stands t (inr f) = record {
  permitted = holds_to (λ a. Fits item_node a (names_of t)) (in_tail (at_head {xs = []} (fits_edge url_name 4 url_leads url_listed t f.0 f.1)));
  twins = All-nil _;
  children = edge_below url_name 4 url_leads url_listed t f.0 f.1 f.2;
}

pub item_alike : Alike (IsAt 3) IsItem
item_alike = alike_then (members_alike marks_schema (id 3) item_node refl) (record { into = stands_item; from = item_stands })
