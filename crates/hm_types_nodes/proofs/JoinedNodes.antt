-- The view of a fork is well formed where the views of its two lenses are, and requires its twins.
use Rattle.std.proofs.Common.{◌≡◌, ◌⊎◌, ◌+◌, ◌<◌, ◌≤◌, ℕ, Bool, true, false, cond, not, ◌&&◌, ◌||◌, IsTrue, IfSome, ◌++◌, length, get_or, Option, Some, None, All, Any, Contains, refl, sym, ap, subst, ◌∙◌, arith, inl, inr}
use Rattle.std.proofs.lemmas.Bool.{true≢false, or_right, or_from, not-true, false_from_ne_true}
use Rattle.std.proofs.lemmas.List.Elements.{All-weaker, All-append, All-contains_itself}
use Rattle.std.specs.Option.{option_or}
use Rattle.std.specs.FinMap.{find}
use Rattle.std.specs.FinSet.{contains, union, contains-union}
use Rattle.hm_tree.specs.Names.{Name, name_cmp}
use Rattle.hm_tree.proofs.Sorted.{name_total}
use Rattle.hm_schema.specs.declared.node.Shape.{Shape}
use Rattle.hm_schema.specs.Values.{NodeOver, is_listed}
use Rattle.hm_schema.specs.WellFormed.{IsWellFormedShape}
use Rattle.hm_schema.specs.Tidied.{has_name}
use Rattle.hm_schema.specs.Shapes.{RequiresTwin, RequiresTwins}
use Rattle.hm_types_nodes.specs.Joining.{joined_shape, CanJoin, IsJoined}
use Rattle.hm_schema.proofs.Elements.{any_of}
use Rattle.hm_schema.proofs.Shapes.{required_has}
use Rattle.hm_types_nodes.proofs.JoinedShapes.{joined_to, joined_all, joined_has, joined_requires, first_requires, second_requires, IsFirst, IsSecond, no_least, same_most, listed_in, listed_out, first_listed}
use Rattle.hm_schema.proofs.Drawn.{all_some}

module _ {I : Type 0} (q : Name → Bool) (one two n : NodeOver I) (c : CanJoin q one two) (j : IsJoined q one two n) where
  -- which names it lists: of the first view those that pass, and those of the second
  pub join_listed : (k : Name) → is_listed n k ≡ ((q k && is_listed one k) || is_listed two k)
  join_listed k = go (q k) refl
    where
      go : (b : Bool) → q k ≡ b → is_listed n k ≡ ((b && is_listed one k) || is_listed two k)
      go true e = listed_in q one two n j k e
      go false e = listed_out q one two n j k e

  -- what a listed name leads to is what it leads to at one of the two views
  pub join_child : (k : Name) (x : I) → find name_cmp k n.children ≡ Some x
      → (find name_cmp k one.children ≡ Some x) ⊎ (find name_cmp k two.children ≡ Some x)
  join_child k x e = go (q k) (find name_cmp k one.children) refl (sym (j.children k) ∙ e)
    where
      go : (b : Bool) (y : Option I) → find name_cmp k one.children ≡ y → option_or (cond b y None) (find name_cmp k two.children) ≡ Some x
          → (find name_cmp k one.children ≡ Some x) ⊎ (find name_cmp k two.children ≡ Some x)
      go true None f e = inr e
      go true (Some y) f e = inl (f ∙ e)
      go false y f e = inr e

  pub join_some : 0 < length one.shapes → 0 < length two.shapes → 0 < length n.shapes
  join_some a b =
      let x = all_some (Contains one.shapes) one.shapes a (All-contains_itself one.shapes) in
      let y = all_some (Contains two.shapes) two.shapes b (All-contains_itself two.shapes) in
      let z = joined_to (λ s. Unit {0}) one.shapes two.shapes (any_of (λ s. Any (λ s. Unit {0}) two.shapes) one.shapes x.0 x.1
      (any_of (λ s. Unit {0}) two.shapes y.0 y.1 tt)) in
      let lt = z.2 in
      subst (λ l. 0 < length l) (sym j.shapes) (omega arith)

  pub join_requires : RequiresTwins one → RequiresTwins two → RequiresTwins n
  join_requires own_one own_two = subst (λ ws. All (λ s. All (RequiresTwin s) ws) n.shapes) (sym j.twins)
      (subst (All (λ s. All (RequiresTwin s) (one.twins ++ two.twins))) (sym j.shapes)
      (joined_all (λ s. All (RequiresTwin s) (one.twins ++ two.twins)) one.shapes two.shapes (λ i d lt i2 d2 lt2.
      let a : Shape = get_or one.shapes i d in
      let b : Shape = get_or two.shapes i2 d2 in
      All-append (RequiresTwin (joined_shape a b)) one.twins two.twins
      (All-weaker (RequiresTwin a) (RequiresTwin (joined_shape a b))
      (λ w r. record { one = first_requires a b w.0 r.one; two = first_requires a b w.1 r.two }) one.twins (own_one i d lt))
      (All-weaker (RequiresTwin b) (RequiresTwin (joined_shape a b))
      (λ w r. record { one = second_requires a b w.0 r.one; two = second_requires a b w.1 r.two }) two.twins (own_two i2 d2 lt2)))))

  module _ (a b : Shape) (fa : IsFirst q one a) (fb : IsSecond q two b) (wb : IsWellFormedShape two b) where
    -- no name is in both shapes
    not_both : (k : Name) → IsTrue (has_name a k) → IsTrue (has_name b k) → ⊥
    not_both k h g = true≢false (sym (fb.outside k g) ∙ ap not (fa.inside k h))

    not_optional : (k : Name) → contains a.optional k ≡ false → contains b.optional k ≡ false → contains (union a.optional b.optional) k ≡ false
    not_optional k e f = contains-union name_total a.optional b.optional k ∙ or_from (contains a.optional k) (contains b.optional k) e f

    shape_well : IsWellFormedShape n (joined_shape a b)
    shape_well = record {
      listed = λ k h. elim (joined_has a b k h) [
        | inl x ↦ first_listed q one two n j k (fa.inside k x) (fa.well.listed k x)
        | inr y ↦ listed_out q one two n j k (not-true (q k) (fb.outside k y)) ∙ wb.listed k y
      ];
      apart = λ k h. elim (joined_requires a b k h) [
        | inl x ↦ not_optional k (fa.well.apart k x) (false_from_ne_true (contains b.optional k)
            (λ o. not_both k (required_has a k x) (or_right (contains b.required k) (contains b.optional k) o)))
        | inr y ↦ not_optional k (false_from_ne_true (contains a.optional k)
            (λ o. not_both k (or_right (contains a.required k) (contains a.optional k) o) (required_has b k y))) (wb.apart k y)
      ];
      ordered = subst (λ m. IfSome m (λ most. a.least + b.least ≤ most)) (sym (same_most q one a b fa)) (ordered b.most wb.ordered);
      none = λ e. let w = wb.none (sym j.other ∙ e) in (omega (arith, no_least q one a b fa), same_most q one a b fa ∙ w.1);
    }
      where
        ordered : (m : Option ℕ) → IfSome m (λ most. b.least ≤ most) → IfSome m (λ most. a.least + b.least ≤ most)
        ordered None h = tt
        ordered (Some m) h = omega (arith, no_least q one a b fa)

  pub join_well : All (IsWellFormedShape one) one.shapes → All (IsWellFormedShape two) two.shapes → All (IsWellFormedShape n) n.shapes
  join_well well_one well_two = subst (All (IsWellFormedShape n)) (sym j.shapes)
      (joined_all (IsWellFormedShape n) one.shapes two.shapes (λ i d lt i2 d2 lt2.
      shape_well (get_or one.shapes i d) (get_or two.shapes i2 d2)
      (record { well = well_one i d lt; shut = c.shut i d lt; inside = c.inside i d lt })
      (record { outside = c.outside i2 d2 lt2; parts = c.parts i2 d2 lt2 }) (well_two i2 d2 lt2)))
