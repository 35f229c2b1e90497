-- Lenses in a lens that are equal.
use Rattle.std.specs.Prelude.{◌≡◌, ℕ, List, Some, slice_get}
use Rattle.hm_terms.specs.Lenses.{Lens}

-- the lens at a place stands at another place too
abbrev pub IsLike : List Lens → ℕ → ℕ → Type 0
IsLike all p q = (l : Lens) → slice_get all p ≡ Some l → slice_get all q ≡ Some l

-- for each place another one at which an equal lens stands
pub record AreAlike (all : List Lens) (places : List ℕ) : Type 0 where
  pub each : (p q : ℕ) → slice_get places p ≡ Some q → IsLike all p q
