-- The tokens that bytes begin with: tags, from `<` to the next `>` outside double quotes, and the texts between them.
use Rattle.std.specs.Prelude.{◌≡◌, ◌≢◌, ℕ, ◌+◌, Bool, true, false, not, cond, ◌&&◌, ◌||◌, List, [], ◌∷◌, ◌++◌, drop}
use Rattle.std.specs.Bool.{◌==◌}
use Rattle.std.specs.List.{position_or_len}
use Rattle.hm_marks_tokens.specs.Bytes.{less, greater, quote, has_less}

-- a tag, by the bytes between `<` and `>`, or a text
pub data Token : Type 0 where
  tag : List ℕ → Token
  text : List ℕ → Token

-- what stands behind a byte is inside double quotes, where the byte itself is or isn't
abbrev pub toggled : ℕ → Bool → Bool
toggled b quoted = cond (b == quote) (not quoted) quoted

-- these bytes, the first of which is inside double quotes or isn't, have no `>` outside them, and end outside them
abbrev pub is_inside : Bool → List ℕ → Bool
is_inside quoted [] = not quoted
is_inside quoted (b ∷ rest) = not ((b == greater) && not quoted) && is_inside (toggled b quoted) rest

-- the bytes of a token
abbrev pub spelled : Token → List ℕ
spelled (tag inside) = less ∷ (inside ++ greater ∷ [])
spelled (text bytes) = bytes

-- the first of these bytes is `<`, or there is none
abbrev pub begins_tag : List ℕ → Bool
begins_tag [] = true
begins_tag (b ∷ rest) = b == less

-- a token may stand before these bytes: a text is not empty, has no `<`, and goes on to the next `<` or to the end
abbrev pub MayStand : Token → List ℕ → Type 0
MayStand (tag inside) rest = is_inside false inside ≡ true
MayStand (text bytes) rest = (bytes ≢ []) × (has_less bytes ≡ false) × (begins_tag rest ≡ true)

-- bytes begin with a token, and this rest stands behind it
pub record IsNext (bytes : List ℕ) (t : Token) (rest : List ℕ) : Type 0 where
  pub are : bytes ≡ spelled t ++ rest
  pub may : MayStand t rest

-- bytes begin with no token
abbrev pub HasNone : List ℕ → Type 0
HasNone bytes = (t : Token) (rest : List ℕ) → IsNext bytes t rest → ⊥

-- ---- finding them

-- how many bytes stand before the next `<`, or before the end
abbrev pub text_len : List ℕ → ℕ
text_len bytes = position_or_len (λ b. b == less) bytes

-- how many bytes stand before the first `>` outside double quotes, or before the end
abbrev pub inside_len : Bool → List ℕ → ℕ
inside_len quoted [] = 0
inside_len quoted (b ∷ rest) = cond ((b == greater) && not quoted) 0 (1 + inside_len (toggled b quoted) rest)

-- a run outside double quotes ends at this byte: the tag does, or a quote begins
abbrev pub ends_run : ℕ → Bool
ends_run b = (b == greater) || (b == quote)

-- what stands behind the first `"`; nothing where there is none
abbrev pub behind_quote : List ℕ → List ℕ
behind_quote bytes = drop (position_or_len (λ b. b == quote) bytes + 1) bytes
