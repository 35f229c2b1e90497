-- How a name is spelled: between two quotes, with what doesn't stand for itself escaped.
use Rattle.std.specs.Prelude.{◌≡◌, ◌≢◌, ℕ, ◌≤◌, ◌/◌, ◌%◌, Bool, cond, not, ◌||◌, List, [], ◌∷◌, ◌++◌, length, take, codes, flat_map, Option, Some, None, IsUtf8}
use Rattle.std.specs.Bool.{◌==◌, nat_lt}
use Rattle.std.specs.Char.{digit_char}
use Rattle.hm_tree.specs.Names.{Name}
use Rattle.hm_tree.specs.States.{Path}

-- " and \
abbrev pub is_quote_or_backslash : ℕ → Bool
is_quote_or_backslash b = (b == 34) || (b == 92)

-- the characters below U+0020, and U+007F
abbrev pub is_control : ℕ → Bool
is_control b = nat_lt b 32 || (b == 127)

-- what stands for itself
abbrev pub is_plain : ℕ → Bool
is_plain b = not (is_quote_or_backslash b || is_control b)

-- a quote and a backslash stand behind \, a control character of ASCII is \x and two lower-case hexadecimal digits
abbrev pub spelled_byte : ℕ → List ℕ
spelled_byte b = cond (is_quote_or_backslash b) (92 ∷ b ∷ [])
    (cond (is_control b) (92 ∷ 120 ∷ digit_char (b / 16) ∷ digit_char (b % 16) ∷ []) (b ∷ []))

-- the same for each byte of a text
abbrev pub escaped : List ℕ → List ℕ
escaped = flat_map spelled_byte

unfoldable pub spelled : Name → List ℕ
spelled name = 34 ∷ (escaped name ++ 34 ∷ [])

-- a path: a stroke for the root, and else one before the spelling of each name
abbrev pub path_text : Path → List ℕ
path_text [] = codes "/"
path_text (k ∷ p) = flat_map (λ (n : Name). 47 ∷ spelled n) (k ∷ p)

-- what is read at the front of bytes: a name and the length of its spelling; none where no name's spelling stands there
abbrev pub IsUnspelled : List ℕ → Option (Name × ℕ) → Type 0
IsUnspelled bytes None = (name : Name) (rest : List ℕ) → IsUtf8 name → bytes ≢ spelled name ++ rest
IsUnspelled bytes (Some found) = IsUtf8 found.0 × (found.1 ≤ length bytes) × (take found.1 bytes ≡ spelled found.0)

-- the same of one byte of a name
abbrev pub IsUnspelledByte : List ℕ → Option (ℕ × ℕ) → Type 0
IsUnspelledByte bytes None = (b : ℕ) (rest : List ℕ) → bytes ≢ spelled_byte b ++ rest
IsUnspelledByte bytes (Some found) = (found.1 ≤ length bytes) × (take found.1 bytes ≡ spelled_byte found.0)
