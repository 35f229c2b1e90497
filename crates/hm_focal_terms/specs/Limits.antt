-- How large a term and its text may be.
use Rattle.std.specs.Prelude.{◌⊎◌, ℕ, ◌+◌, ◌<◌, ◌==◌, Bool, true, false, cond, ◌||◌, List, [], ◌∷◌, take, count_by}
use Rattle.hm_terms.specs.Lenses.{Lens, Lenses, identity, sequence, constant, hoist, plunge, fork, each, among, items, copy, merge, on_concrete, on_view, text, call, none, also}
use Rattle.hm_focal_terms.specs.declared.limit.Place.{Place}
use Rattle.hm_focal_terms.specs.declared.limit.Place.TheVariants.{Outside, Inside, Escaped}

-- where the next byte stands, behind a byte: outside names between quotes, in one, or in one behind a backslash there,
-- which ends no name
abbrev pub behind_byte : Place → ℕ → Place
behind_byte Outside b = cond (b == 34) Inside Outside
behind_byte Inside b = cond (b == 34) Outside (cond (b == 92) Escaped Inside)
behind_byte Escaped b = Inside

abbrev pub is_outside : Place → Bool
is_outside Outside = true
is_outside Inside = false
is_outside Escaped = false

-- the bytes that stand outside names between quotes
abbrev pub outside : Place → List ℕ → List ℕ
outside p [] = []
outside p (b ∷ bytes) = cond (is_outside p) (b ∷ outside (behind_byte p b) bytes) (outside (behind_byte p b) bytes)

-- parentheses and braces
abbrev pub is_opening : ℕ → Bool
is_opening b = (b == 40) || (b == 123)

abbrev pub is_closing : ℕ → Bool
is_closing b = (b == 41) || (b == 125)

abbrev pub is_semicolon : ℕ → Bool
is_semicolon b = b == 59

-- some beginning of these bytes opens so many more than it closes, or they have so many semicolons
pub record IsTooNested (bytes : List ℕ) : Type 0 where
  pub length : ℕ
  pub more : count_by is_closing (take length bytes) + 200 < count_by is_opening (take length bytes)

abbrev pub IsTooLong : List ℕ → Type 0
IsTooLong bytes = 1999 < count_by is_semicolon bytes

-- a text that isn't looked at further, by what stands outside names between quotes: some beginning leaves more than 200
-- parentheses and braces open, or there are more than 1,999 semicolons
abbrev pub IsOversized : List ℕ → Type 0
IsOversized bytes = IsTooNested (outside Outside bytes) ⊎ IsTooLong (outside Outside bytes)

-- ---- how many terms a lens has: itself and those inside

abbrev mutual
  pub terms_of : Lens → ℕ
  terms_of identity = 1
  terms_of (sequence l k) = 1 + terms_of l + terms_of k
  terms_of (constant t d) = 1
  terms_of (hoist n) = 1
  terms_of (plunge n) = 1
  terms_of (fork P Q l k) = 1 + terms_of l + terms_of k
  terms_of (each l) = 1 + terms_of l
  terms_of (among ls) = 1 + terms_in ls
  terms_of (items l) = 1 + terms_of l
  terms_of (copy m n) = 1
  terms_of (merge m n) = 1
  terms_of (on_concrete n l k) = 1 + terms_of l + terms_of k
  terms_of (on_view n m l k) = 1 + terms_of l + terms_of k
  terms_of (text n) = 1
  terms_of (call n) = 1

  pub terms_in : Lenses → ℕ
  terms_in none = 0
  terms_in (also n l ls) = terms_of l + terms_in ls

abbrev pub IsLong : Lens → Type 0
IsLong l = 2000 < terms_of l
