-- Counts: the least, two dots, and the most if there is a bound; in decimal, without leading zeros, below 2 ^ 64.
use Rattle.std.specs.Prelude.{◌≡◌, ℕ, ◌<◌, ◌^◌, Bool, ◌&&◌, List, [], ◌++◌, codes, decimal, Option, Some, None}
use Rattle.std.specs.Bool.{nat_le}
use Rattle.hm_schema_lines.specs.declared.count.Count.{Count}

abbrev pub is_digit : ℕ → Bool
is_digit b = nat_le 48 b && nat_le b 57

-- some bytes are a number in decimal
pub record IsDecimal (bytes : List ℕ) (n : ℕ) : Type 0 where
  pub fits : n < 2 ^ 64
  pub text : bytes ≡ decimal n

-- nothing where there is no bound
abbrev pub IsMost : List ℕ → Option ℕ → Type 0
IsMost bytes None = bytes ≡ []
IsMost bytes (Some n) = IsDecimal bytes n

-- a word is a count
pub record IsCount (word : List ℕ) (c : Count) : Type 0 where
  pub front : List ℕ
  pub rest : List ℕ
  pub is : word ≡ front ++ (codes ".." ++ rest)
  pub least : IsDecimal front c.least
  pub most : IsMost rest c.most

-- ---- what is read

abbrev pub IsReadDecimal : List ℕ → Option ℕ → Type 0
IsReadDecimal bytes None = (n : ℕ) → ¬ (IsDecimal bytes n)
IsReadDecimal bytes (Some n) = IsDecimal bytes n

abbrev pub IsReadMost : List ℕ → Option (Option ℕ) → Type 0
IsReadMost bytes None = (most : Option ℕ) → ¬ (IsMost bytes most)
IsReadMost bytes (Some most) = IsMost bytes most

abbrev pub IsReadCount : List ℕ → Option Count → Type 0
IsReadCount word None = (c : Count) → ¬ (IsCount word c)
IsReadCount word (Some c) = IsCount word c
