-- How a UTF-8 character goes on that has begun.
use Rattle.std.specs.Prelude.{ℕ, zero, suc, ◌≤◌, List, [], ◌∷◌, IsUtf8}
use Rattle.hm_tree_text.specs.declared.character.Character.{Character}

-- the bytes end a character of which some bytes are missing, the next one between low and high, and are texts behind it
abbrev pub Continues : ℕ → ℕ → ℕ → List ℕ → Type 0
Continues zero low high bytes = IsUtf8 bytes
Continues (suc n) low high [] = ⊥
Continues (suc n) low high (b ∷ bytes) = (low ≤ b) × (b ≤ high) × Continues n 128 191 bytes

abbrev pub Completes : Character → List ℕ → Type 0
Completes c bytes = Continues c.missing c.low c.high bytes

-- a text begins with a byte
abbrev pub IsBegunBy : ℕ → List ℕ → Type 0
IsBegunBy b bytes = IsUtf8 (b ∷ bytes)

-- some bytes complete it, of which none is that of a longer character's first byte
pub record IsOpen (c : Character) : Type 0 where
  pub high : c.high ≤ 191
  pub completion : List ℕ
  pub completes : Completes c completion

-- behind a byte a character goes on as another
abbrev pub GoesOn : Character → ℕ → Character → Type 0
GoesOn c b next = (rest : List ℕ) → (Completes c (b ∷ rest) → Completes next rest) × (Completes next rest → Completes c (b ∷ rest))

-- one of which nothing is missing
abbrev pub complete : Character
complete = record { missing = 0; low = 128; high = 191 }
