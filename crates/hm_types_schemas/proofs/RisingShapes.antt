-- Shapes that rise have no repeats.
use Rattle.std.proofs.Common.{◌≡◌, ◌<◌, ◌≤◌, ◌+◌, ◌-◌, ◌⊎◌, ℕ, zero, suc, List, [], ◌∷◌, ◌++◌, length, slice_get, Some, Contains, inl, inr, refl, sym, ap, subst, ◌∙◌, arith, append_assoc}
use Rattle.std.specs.declared.cmp.Ordering.TheVariants.{Less, Equal}
use Rattle.std.proofs.lemmas.Bool.{cases_lt}
use Rattle.std.proofs.lemmas.Cmp.{tied_itself}
use Rattle.std.proofs.lemmas.Option.{same_Some, slice_get_within}
use Rattle.hm_schema.specs.declared.node.Shape.{Shape}
use Rattle.hm_schema.specs.ShapeOrder.{shape_cmp, shape_total}
use Rattle.hm_types_rules.specs.Numbering.{IsDistinct, none_left, new}
use Rattle.hm_types_schemas.specs.Rising.{Rise, RiseBelow}

-- one shape more
pub rise_more : (xs : List Shape) (p : ℕ) (x y : Shape) → slice_get xs (p - 1) ≡ Some x → slice_get xs p ≡ Some y → 1 ≤ p → shape_cmp x y ≡ Less
    → RiseBelow p xs → RiseBelow (p + 1) xs
rise_more xs p x y at_x at_y one less r i j a b lt within at_a at_b = elim (cases_lt j p) [
  | inl f ↦ r i j a b lt f at_a at_b
  | inr g ↦
      let same : j ≡ p = omega (arith, within, g) in
      let last : y ≡ b = same_Some y b (sym at_y ∙ ap (slice_get xs) (sym same) ∙ at_b) in
      subst (λ (b : Shape). shape_cmp a b ≡ Less) last (before same (cases_lt i (p - 1)))
]
  where
    before : j ≡ p → (i < p - 1) ⊎ (p - 1 ≤ i) → shape_cmp a y ≡ Less
    before same (inl h) = shape_total.trans a x y (r i (p - 1) a x h (omega (arith, one)) at_a at_x) less
    before same (inr h) =
        let here : i ≡ p - 1 = omega (arith, h, lt, same) in
        let first : x ≡ a = same_Some x a (sym at_x ∙ ap (slice_get xs) (sym here) ∙ at_a) in
        subst (λ (a : Shape). shape_cmp a y ≡ Less) first less

pub rise_all : (xs : List Shape) (p : ℕ) → length xs ≤ p → RiseBelow p xs → Rise xs
rise_all xs p end r i j a b lt at_a at_b = r i j a b lt (omega (arith, end, slice_get_within xs j b at_b)) at_a at_b

contained_at : (xs : List Shape) (y : Shape) → Contains xs y → (i : ℕ) × ((i < length xs) × (slice_get xs i ≡ Some y))
contained_at [] y (i, lt, e) = absurd (omega (arith, lt))
contained_at (x ∷ xs) y (zero, lt, e) = (zero, (lt, ap Some e))
contained_at (x ∷ xs) y (suc i, lt, e) = let r = contained_at xs y (i, omega (arith, lt), e) in (suc r.0, (omega (arith, r.1.0), r.1.1))

at_first : (seen xs : List Shape) (i : ℕ) → i < length seen → slice_get (seen ++ xs) i ≡ slice_get seen i
at_first [] xs i lt = absurd (omega (arith, lt))
at_first (y ∷ seen) xs zero lt = refl
at_first (y ∷ seen) xs (suc i) lt = at_first seen xs i (omega (arith, lt))

at_next : (seen xs : List Shape) (x : Shape) → slice_get (seen ++ x ∷ xs) (length seen) ≡ Some x
at_next [] xs x = refl
at_next (y ∷ seen) xs x = at_next seen xs x

rest_distinct : (seen xs : List Shape) → Rise (seen ++ xs) → IsDistinct seen xs xs
rest_distinct seen [] r = none_left
rest_distinct seen (x ∷ xs) r = new (λ c. off (contained_at seen x c))
    (rest_distinct (seen ++ x ∷ []) xs (subst Rise (sym (append_assoc seen (x ∷ []) xs)) r))
  where
    off : (i : ℕ) × ((i < length seen) × (slice_get seen i ≡ Some x)) → ⊥
    off c =
        let less : shape_cmp x x ≡ Less = r c.0 (length seen) x x c.1.0 (at_first seen (x ∷ xs) c.0 c.1.0 ∙ c.1.1) (at_next seen xs x) in
        let no : Less ≡ Equal = sym less ∙ tied_itself shape_total x in
        cc

pub rise_distinct : (xs : List Shape) → Rise xs → IsDistinct [] xs xs
rise_distinct xs r = rest_distinct [] xs r
