-- The tokens of a line: words, names between quotes, `?` and `+`, with one or more spaces between two of them.
use Rattle.std.specs.Prelude.{◌≡◌, ◌≢◌, ℕ, ◌<◌, ◌≤◌, take, drop, Option, Some, None, Vec, Bool, false, ◌&&◌, ◌||◌, ◌==◌, T, List, [], ◌∷◌, ◌++◌, length, codes, IsUtf8}
use Rattle.std.specs.Bool.{nat_le}
use Rattle.std.specs.List.{list_all}
use Rattle.std.specs.declared.alloc.Global.{Global}
use Rattle.hm_tree_spelling.specs.Spelling.{spelled}
use Rattle.hm_schema_lines.specs.declared.token.Token.{Token}
use Rattle.hm_schema_lines.specs.declared.token.Token.TheVariants.{Word, Quoted, Question, Plus}

-- A-Z, a-z, 0-9, _, -, . and *
abbrev pub is_word_byte : ℕ → Bool
is_word_byte b =
    (nat_le 65 b && nat_le b 90) || (nat_le 97 b && nat_le b 122) || (nat_le 48 b && nat_le b 57) || (b == 95) || (b == 45) || (b == 46) || (b == 42)

abbrev pub is_word : List ℕ → Bool
is_word bytes = list_all is_word_byte bytes

-- the bytes of a token
abbrev pub token_text : Token → List ℕ
token_text (Word word) = word
token_text (Quoted name) = spelled name
token_text Question = codes "?"
token_text Plus = codes "+"

-- a word has a character, and a quoted name is a text
abbrev pub IsToken : Token → Type 0
IsToken (Word word) = (0 < length word) × T (is_word word)
IsToken (Quoted name) = IsUtf8 name
IsToken Question = Unit {0}
IsToken Plus = Unit {0}

-- one or more spaces
pub data AreSpaces : List ℕ → Type 0 where
  one : AreSpaces (32 ∷ [])
  more : {gap : List ℕ} → AreSpaces gap → AreSpaces (32 ∷ gap)

-- tokens, with spaces between two of them
pub data Spaced : List Token → List ℕ → Type 0 where
  alone : {t : Token} → IsToken t → Spaced (t ∷ []) (token_text t)
  before : {t : Token} {ts : List Token} {gap rest : List ℕ} → IsToken t → AreSpaces gap → Spaced ts rest
      → Spaced (t ∷ ts) (token_text t ++ (gap ++ rest))

-- what may stand behind a token: nothing, or a space
abbrev pub EndsToken : List ℕ → Type 0
EndsToken [] = Unit {0}
EndsToken (b ∷ bytes) = b ≡ 32

-- a word goes as far as it can
abbrev pub begins_word : List ℕ → Bool
begins_word [] = false
begins_word (b ∷ bytes) = is_word_byte b

abbrev pub Stops : Token → List ℕ → Type 0
Stops (Word word) rest = begins_word rest ≡ false
Stops (Quoted name) rest = Unit {0}
Stops Question rest = Unit {0}
Stops Plus rest = Unit {0}

-- the token at the front of bytes, and its length; none where no token stands there with nothing or a space behind it
abbrev pub IsFirstToken : List ℕ → Option (Token × ℕ) → Type 0
IsFirstToken bytes None = (t : Token) (rest : List ℕ) → IsToken t → EndsToken rest → bytes ≢ token_text t ++ rest
IsFirstToken bytes (Some found) = IsToken found.0 × (found.1 ≤ length bytes) × (take found.1 bytes ≡ token_text found.0)
    × Stops found.0 (drop found.1 bytes)

-- the tokens of some bytes; none where they are no tokens
abbrev pub AreTokens : List ℕ → Option (Vec Token Global) → Type 0
AreTokens bytes None = (ts : List Token) → ¬ (Spaced ts bytes)
AreTokens bytes (Some tokens) = Spaced tokens.items bytes
