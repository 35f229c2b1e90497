-- Folding: lines of at most 75 octets, each with its end (RFC 5545, section 3.1; RFC 6350, section 3.2). A line is cut between
-- characters alone.
use Rattle.std.specs.Prelude.{◌≡◌, ℕ, ◌<◌, ◌≤◌, false, List, [], ◌∷◌, ◌++◌, length, All}
use Rattle.std.specs.Bool.{◌==◌}
use Rattle.std.specs.Str.{IsCharBoundary}
use Rattle.hm_lines.specs.Unfolding.{feed, return, begins_with_blank}

-- bytes that are none of a kind
abbrev pub HasNone : ℕ → List ℕ → Type 0
HasNone x bytes = All (λ b. (b == x) ≡ false) bytes

-- a line that can be written: it has no line feed, and doesn't begin with a blank
pub record IsPlain (line : List ℕ) : Type 0 where
  pub no_feed : HasNone feed line
  pub no_blank : begins_with_blank line ≡ false

-- how many octets the first piece of a line has at the most, and each further one, which stands behind a space
abbrev pub first_limit : ℕ
first_limit = 75

abbrev pub further_limit : ℕ
further_limit = 74

-- a text begins with a piece, which is the longest beginning of at most so many octets that ends at a character
pub record IsLongest (limit : ℕ) (text piece rest : List ℕ) : Type 0 where
  pub parts : text ≡ piece ++ rest
  pub within : length piece ≤ limit
  pub character : IsCharBoundary text (length piece)
  pub longest : (k : ℕ) → k ≤ limit → IsCharBoundary text k → k ≤ length piece

-- the pieces of a text whose first one has at most so many octets: a text that is no longer is its one piece
abbrev pub ArePieces : ℕ → List ℕ → List (List ℕ) → Type 0
ArePieces limit text [] = ⊥
ArePieces limit text (piece ∷ []) = (length text ≤ limit) × (text ≡ piece)
ArePieces limit text (piece ∷ next ∷ pieces) =
    (limit < length text) × ((rest : List ℕ) × (IsLongest limit text piece rest × ArePieces further_limit rest (next ∷ pieces)))

-- pieces, with a line end and a space between them, and a line end behind the last
abbrev pub joined : List (List ℕ) → List ℕ
joined [] = []
joined (piece ∷ []) = piece ++ return ∷ feed ∷ []
joined (piece ∷ next ∷ pieces) = piece ++ return ∷ feed ∷ 32 ∷ joined (next ∷ pieces)

-- a line and its end, folded
pub record IsFolded (line bytes : List ℕ) : Type 0 where
  pub pieces : List (List ℕ)
  pub cut : ArePieces first_limit line pieces
  pub joins : bytes ≡ joined pieces

-- lines and their ends, each folded, one behind the other
abbrev pub AreFolded : List (List ℕ) → List ℕ → Type 0
AreFolded [] bytes = bytes ≡ []
AreFolded (line ∷ lines) bytes = (first : List ℕ) × (rest : List ℕ) × IsFolded line first × AreFolded lines rest × (bytes ≡ first ++ rest)

-- to some bytes others were appended, of which this holds
abbrev pub Appends : List ℕ → List ℕ → (List ℕ → Type 0) → Type 0
Appends old new Such = (more : List ℕ) × ((new ≡ old ++ more) × Such more)
