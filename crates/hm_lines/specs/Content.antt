-- Content lines and their parts (RFC 5545, section 3.1; RFC 6350, section 3.3): a group, a name, parameters and a value.
use Rattle.std.specs.Prelude.{◌≡◌, ◌≢◌, ◌⊎◌, ℕ, ◌+◌, ◌<◌, ◌≤◌, Bool, true, false, not, cond, ◌&&◌, ◌||◌, List, [], ◌∷◌, ◌++◌, length, take, slice_index, All}
use Rattle.std.specs.Bool.{◌==◌, nat_lt}
use Rattle.std.specs.Char.{is_ascii_alphanumeric}
use Rattle.std.specs.List.{prefix_len}
use Rattle.std.specs.Str.{IsCharBoundary}
use Rattle.hm_lines.specs.declared.content.LineParts.{LineParts}

abbrev pub colon : ℕ
colon = 58

abbrev pub semicolon : ℕ
semicolon = 59

abbrev pub dot : ℕ
dot = 46

-- a letter or a digit of ASCII, or `-`
abbrev pub is_of_word : ℕ → Bool
is_of_word b = is_ascii_alphanumeric b || (b == 45)

-- one such byte or more
pub record IsWord (bytes : List ℕ) : Type 0 where
  pub some : bytes ≢ []
  pub all : All (λ b. is_of_word b ≡ true) bytes

-- nothing, or a word and a dot
abbrev pub IsGroup : List ℕ → Type 0
IsGroup group = (group ≡ []) ⊎ ((word : List ℕ) × (IsWord word × (group ≡ word ++ dot ∷ [])))

-- nothing, or what begins with `;`
abbrev pub AreParameters : List ℕ → Type 0
AreParameters parameters = (parameters ≡ []) ⊎ ((rest : List ℕ) × (parameters ≡ semicolon ∷ rest))

-- what stands behind these bytes is inside double quotes: they have an odd number of them
abbrev pub opens_quotes : List ℕ → Bool
opens_quotes [] = false
opens_quotes (b ∷ rest) = cond (b == 34) (not (opens_quotes rest)) (opens_quotes rest)

-- a `:` behind these bytes is the first outside double quotes
pub record IsBeforeColon (bytes : List ℕ) : Type 0 where
  pub outside : opens_quotes bytes ≡ false
  pub first : (k : ℕ) → k < length bytes → slice_index bytes k ≡ colon → opens_quotes (take k bytes) ≡ true

-- a content line, and where its name stands and its value begins
pub record IsContentLine (line : List ℕ) (parts : LineParts) : Type 0 where
  pub group : List ℕ
  pub name : List ℕ
  pub parameters : List ℕ
  pub value : List ℕ
  pub bytes : line ≡ group ++ (name ++ (parameters ++ colon ∷ value))
  pub is_group : IsGroup group
  pub is_name : IsWord name
  pub are_parameters : AreParameters parameters
  pub before_colon : IsBeforeColon parameters
  pub name_from : parts.name_from ≡ length group
  pub name_to : parts.name_to ≡ length group + length name
  pub value_from : parts.value_from ≡ length group + length name + length parameters + 1

-- the name and the value of a line stand between characters
pub record IsCutBetweenCharacters (line : List ℕ) (parts : LineParts) : Type 0 where
  pub name_from : IsCharBoundary line parts.name_from
  pub name_to : IsCharBoundary line parts.name_to
  pub value_from : IsCharBoundary line parts.value_from
  pub ordered : parts.name_from ≤ parts.name_to

-- ---- finding them

-- how long the group is that some bytes begin with
abbrev pub group_len : List ℕ → ℕ
group_len bytes = let word = prefix_len is_of_word bytes in cond (nat_lt 0 word && (slice_index bytes word == dot)) (word + 1) 0

-- at a place of some bytes stands the first `:` outside double quotes
pub record IsFirstColon (bytes : List ℕ) (at : ℕ) : Type 0 where
  pub within : at < length bytes
  pub is_colon : slice_index bytes at ≡ colon
  pub before : IsBeforeColon (take at bytes)

-- and what stands before it are parameters
pub record BeginsWithParameters (bytes : List ℕ) (count : ℕ) : Type 0 where
  pub colon : IsFirstColon bytes count
  pub are_parameters : AreParameters (take count bytes)
