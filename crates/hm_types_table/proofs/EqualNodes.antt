-- Equal nodes stand for the same form, and which parts of them are equal.
use Rattle.std.proofs.Common.{◌≡◌, ◌↔◌, Bool, true, false, ◌&&◌, nat_eq, IsTrue, List, [], ◌∷◌, map, length, Some, option_and_then, slice_get, refl, ap, subst, sym, ◌∙◌}
use mathlib.Core.Bool.{false≢true}
use Rattle.std.specs.Cmp.{Equal-is, eq_by_cmp_equiv}
use Rattle.std.specs.Cmp.Lexicographic.{pointwise}
use Rattle.std.specs.Ordering.{eq_by_cmp}
use Rattle.std.specs.List.{zip}
use Rattle.std.specs.Option.{option_map}
use Rattle.std.proofs.lemmas.Bool.{eqb-true, eq-eqb}
use Rattle.std.proofs.lemmas.Option.{same_Some}
use Rattle.std.proofs.lemmas.Slice.Zip.{firsts-zip, seconds-zip}
use Rattle.hm_tree.specs.Names.{Name, name_cmp}
use Rattle.hm_tree.specs.NameLaws.{name_total}
use Rattle.hm_schema.specs.declared.node.NodeId.{NodeId}
use Rattle.hm_schema.specs.declared.node.Shape.{Shape}
use Rattle.hm_schema.specs.ShapeOrder.{shape_cmp, shape_one, shape_total}
use Rattle.hm_schema.proofs.NamesOf.{tie_one}
use Rattle.hm_schema.specs.Values.{NodeValue}
use Rattle.hm_types_forms.specs.Forms.{Way, label_of, next_of, form}
use Rattle.hm_types_forms.specs.SameForms.{IsSame}
use Rattle.hm_types_forms.proofs.SameForms.{same_itself}
use Rattle.hm_types_table.specs.Tables.{Nodes, seat}
use Rattle.hm_types_table.specs.declared.kind.NodeKind.{NodeKind}
use Rattle.hm_types_table.specs.declared.vertex.Vertex.{Vertex}

module _ (nodes : Nodes) (i j : NodeId) (e : slice_get nodes i.place ≡ slice_get nodes j.place) where
  pub equal_forms : form nodes i ≡ form nodes j
  equal_forms = λ p w. go w p
    where
      go : (w : Way) → form nodes i w ≡ form nodes j w
      go [] = ap (option_map label_of) e
      go (s ∷ w) = ap (option_and_then (λ (n : NodeValue). option_and_then (λ (k : NodeId). form nodes k w) (next_of n s))) e

  pub equal_same : IsSame (form nodes i) (form nodes j)
  equal_same = subst (IsSame (form nodes i)) equal_forms (same_itself (form nodes i))

-- nodes are equal where the parts of their kinds and their vertices are
module _ (nodes : Nodes) (i j : NodeId) (k m : NodeKind) (v w : Vertex) (at_i : slice_get nodes i.place ≡ Some (seat k v))
    (at_j : slice_get nodes j.place ≡ Some (seat m w)) where
  pub from_parts : (v.next.items ≡ w.next.items) × (v.other ≡ w.other)
      → (k.names.items ≡ m.names.items) × (k.twins.items ≡ m.twins.items) × (k.shapes.items ≡ m.shapes.items)
      → slice_get nodes i.place ≡ slice_get nodes j.place
  from_parts ends kinds =
      let same : seat k v ≡ seat m w = λ t. record {
        shapes = kinds.2 t;
        children = zip (kinds.0 t) (ends.0 t);
        other = ends.1 t;
        twins = kinds.1 t;
      } in
      at_i ∙ ap Some same ∙ sym at_j

  module _ (count : length v.next.items ≡ length k.names.items) (count_too : length w.next.items ≡ length m.names.items)
      (e : slice_get nodes i.place ≡ slice_get nodes j.place) where
    seats : seat k v ≡ seat m w
    seats = same_Some (seat k v) (seat m w) (sym at_i ∙ e ∙ at_j)

    pub ends_of : (v.next.items ≡ w.next.items) × (v.other ≡ w.other)
    ends_of = (
      sym (seconds-zip k.names.items v.next.items count) ∙ ap (λ (n : NodeValue). map (λ c. c.1) n.children) seats
          ∙ seconds-zip m.names.items w.next.items count_too,
      ap (λ (n : NodeValue). n.other) seats,
    )

    pub kinds_of : (k.names.items ≡ m.names.items) × (k.twins.items ≡ m.twins.items) × (k.shapes.items ≡ m.shapes.items)
    kinds_of = (
      sym (firsts-zip k.names.items v.next.items count) ∙ ap (λ (n : NodeValue). map (λ c. c.0) n.children) seats
          ∙ firsts-zip m.names.items w.next.items count_too,
      ap (λ (n : NodeValue). n.twins) seats,
      ap (λ (n : NodeValue). n.shapes) seats,
    )

-- ---- equal lists

first_true : (x y : Bool) → (x && y) ≡ true → x ≡ true
first_true true y e = refl
first_true false y e = e

second_true : (x y : Bool) → (x && y) ≡ true → y ≡ true
second_true true y e = e
second_true false y e = absurd (false≢true e)

module _ {A : Type 0} (E : A → A → Bool) (one : (a b : A) → E a b ≡ true → a ≡ b) (itself : (a : A) → E a a ≡ true) where
  equal_lists : (xs ys : List A) → pointwise E xs ys ≡ true → xs ≡ ys
  equal_lists [] [] e = refl
  equal_lists [] (y ∷ ys) e = absurd (false≢true e)
  equal_lists (x ∷ xs) [] e = absurd (false≢true e)
  equal_lists (x ∷ xs) (y ∷ ys) e =
      let head = one x y (first_true (E x y) (pointwise E xs ys) e) in
      let rest = equal_lists xs ys (second_true (E x y) (pointwise E xs ys) e) in
      λ t. head t ∷ rest t

  list_itself : (xs : List A) → pointwise E xs xs ≡ true
  list_itself [] = refl
  list_itself (x ∷ xs) = rw (itself x, list_itself xs) refl

  told : (r : Bool) (xs ys : List A) → r ≡ pointwise E xs ys → IsTrue r ↔ (xs ≡ ys)
  told r xs ys e = (λ t. equal_lists xs ys (sym e ∙ t), λ q. e ∙ subst (λ l. pointwise E xs l ≡ true) q (list_itself xs))

pub equal_ends : (r : Bool) (xs ys : List NodeId) → r ≡ pointwise (λ (x y : NodeId). nat_eq x.place y.place) xs ys → IsTrue r ↔ (xs ≡ ys)
equal_ends = told (λ (x y : NodeId). nat_eq x.place y.place)
    (λ x y f. let p = eqb-true x.place y.place f in λ t. record { place = p t }) (λ x. eq-eqb x.place x.place refl)

pub equal_names : (r : Bool) (xs ys : List Name) → r ≡ pointwise (eq_by_cmp name_cmp) xs ys → IsTrue r ↔ (xs ≡ ys)
equal_names = told (eq_by_cmp name_cmp) tie_one (eq_by_cmp_equiv name_total).refl

pub equal_shapes : (r : Bool) (xs ys : List Shape) → r ≡ pointwise (eq_by_cmp shape_cmp) xs ys → IsTrue r ↔ (xs ≡ ys)
equal_shapes = told (eq_by_cmp shape_cmp) (λ a b f. shape_one a b ((Equal-is (shape_cmp a b)).0 f)) (eq_by_cmp_equiv shape_total).refl

pub equal_twins : (r : Bool) (xs ys : List (Name × Name)) → r ≡ pointwise (λ (x y : Name × Name). eq_by_cmp name_cmp x.0 y.0 && eq_by_cmp name_cmp x.1 y.1) xs ys
    → IsTrue r ↔ (xs ≡ ys)
equal_twins = told (λ (x y : Name × Name). eq_by_cmp name_cmp x.0 y.0 && eq_by_cmp name_cmp x.1 y.1)
    (λ x y f.
    let one = tie_one x.0 y.0 (first_true (eq_by_cmp name_cmp x.0 y.0) (eq_by_cmp name_cmp x.1 y.1) f) in
    let two = tie_one x.1 y.1 (second_true (eq_by_cmp name_cmp x.0 y.0) (eq_by_cmp name_cmp x.1 y.1) f) in
    λ t. (one t, two t))
    (λ x. rw ((eq_by_cmp_equiv name_total).refl x.0, (eq_by_cmp_equiv name_total).refl x.1) refl)
