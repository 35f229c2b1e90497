-- Beginnings of files.
use Rattle.std.specs.Prelude.{ℕ, ◌≤◌, List, ◌++◌, length, take}

-- bytes with which a file begins
abbrev pub IsBegun : (List ℕ → Type 0) → List ℕ → Type 0
IsBegun File begun = (rest : List ℕ) × File (begun ++ rest)

-- the longest part of the bytes with which a file begins ends at a place
pub record IsLongestBegun (File : List ℕ → Type 0) (bytes : List ℕ) (at : ℕ) : Type 0 where
  pub within : at ≤ length bytes
  pub begun : IsBegun File (take at bytes)
  pub longest : (n : ℕ) → n ≤ length bytes → IsBegun File (take n bytes) → n ≤ at
