-- The measures by which the check of a lens ends.
use Rattle.std.proofs.Common.{◌≡◌, ◌<◌, ◌≤◌, ◌+◌, ◌*◌, ℕ, List, [], ◌∷◌, zero, suc, slice_get, Some, ap, arith}
use Rattle.std.proofs.lemmas.Option.{same_Some, none-some}
use Rattle.hm_tree.specs.Names.{Name}
use Rattle.hm_terms.specs.declared.term.Term.{Term}
use Rattle.hm_terms.specs.Lenses.{Lens, Lenses, among}
use Rattle.hm_terms.specs.Programs.{lens_of, lenses_of}
use Rattle.hm_types_rules.specs.Faults.{size_of, size_of_all}

pub first_falls : (a b t : ℕ) → 4 * (a + b) + 3 ≡ t → 4 * a + 1 < t
first_falls a b t e = omega (arith, e)

pub second_falls : (a b t : ℕ) → 4 * (a + b) + 3 ≡ t → 4 * b + 1 < t
second_falls a b t e = omega (arith, e)

pub pair_falls : (a b t : ℕ) → 4 * (a + b) + 3 ≡ t → 4 * (a + b) + 2 < t
pair_falls a b t e = omega (arith, e)

pub pair_second_falls : (a b t : ℕ) → 4 * (a + b) + 2 ≡ t → 4 * b + 1 < t
pair_second_falls a b t e = omega (arith, e)

pub inner_falls : (a t : ℕ) → 4 * a + 3 ≡ t → 4 * a + 1 < t
inner_falls a t e = omega (arith, e)

pub step_falls : (a t : ℕ) → 4 * a + 3 ≡ t → 4 * a + 2 < t
step_falls a t e = omega (arith, e)

pub below_falls : (a t : ℕ) → 4 * a + 2 ≡ t → 4 * a + 1 < t
below_falls a t e = omega (arith, e)

pub among_falls : (l : Lens) (ls : Lenses) (t : ℕ) → l ≡ among ls → 4 * size_of l ≡ t → 4 * size_of_all ls + 3 < t
among_falls l ls t is e = let size : size_of l ≡ 1 + size_of_all ls = ap size_of is in omega (arith, e, size)

pub row_falls : (rows : List (Name × Term)) (i : ℕ) (row : Name × Term) (t : ℕ) → slice_get rows i ≡ Some row → 4 * size_of_all (lenses_of rows) + 3 ≡ t
    → 4 * size_of (lens_of row.1) + 1 < t
row_falls rows i row t at e = omega (arith, e, within rows i at)
  where
    within : (rows : List (Name × Term)) (i : ℕ) → slice_get rows i ≡ Some row → size_of (lens_of row.1) ≤ size_of_all (lenses_of rows)
    within [] i at = absurd (none-some row at)
    within (r ∷ rows) zero at = let same : size_of (lens_of r.1) ≡ size_of (lens_of row.1) = ap (λ (q : Name × Term). size_of (lens_of q.1)) (same_Some r row at) in omega (arith, same)
    within (r ∷ rows) (suc i) at = omega (arith, within rows i at)

-- and that by which the walk over the lenses in a term ends
pub rows_fall : (l : Lens) (ls : Lenses) (t : ℕ) → l ≡ among ls → 4 * size_of l + 1 ≡ t → 4 * size_of_all ls + 3 < t
rows_fall l ls t is e = let size : size_of l ≡ 1 + size_of_all ls = ap size_of is in omega (arith, e, size)

pub row_parts_fall : (rows : List (Name × Term)) (i : ℕ) (row : Name × Term) (t : ℕ) → slice_get rows i ≡ Some row → 4 * size_of_all (lenses_of rows) + 3 ≡ t
    → 4 * size_of (lens_of row.1) + 2 < t
row_parts_fall rows i row t at e = let less = row_falls rows i row t at e in omega (arith, less)
