-- The first bad line of a file, whatever makes its lines bad.
use Rattle.std.specs.Prelude.{ℕ, ◌+◌, ◌<◌}

abbrev pub HasNoBad : (ℕ → Type 0) → Type 0
HasNoBad Bad = (i : ℕ) → ¬ (Bad i)

pub record IsFirstBad (Bad : ℕ → Type 0) (i : ℕ) : Type 0 where
  pub bad : Bad i
  pub first : (j : ℕ) → j < i → ¬ (Bad j)

-- the line that is told of a file of so many lines: the first bad one, counted from 1; one more than there are lines where none is bad, but one
-- is lacking
pub data IsTold (Bad : ℕ → Type 0) (Lacks : Type 0) (count : ℕ) : ℕ → Type 0 where
  at : {i : ℕ} → IsFirstBad Bad i → IsTold Bad Lacks count (i + 1)
  behind_all : HasNoBad Bad → Lacks → IsTold Bad Lacks count (count + 1)
