-- The head of a file: what stands before its outermost list.
use Rattle.std.specs.Prelude.{◌≡◌, ℕ, ◌<◌, Bool, true, false, cond, ◌&&◌, ◌||◌, List, [], ◌∷◌, length, take, drop, codes}
use Rattle.std.specs.Bool.{◌==◌, nat_eq}
use Rattle.std.specs.List.{starts_with}
use Rattle.std.specs.Char.{is_ascii_whitespace}
use Rattle.std.specs.Str.{str_eq_ignore_ascii_case}
use Rattle.hm_marks_tokens.specs.Bytes.{greater}
use Rattle.hm_marks_tokens.specs.Attributes.{white_len}

-- U+FEFF in UTF-8
abbrev pub byte_order_mark : List ℕ
byte_order_mark = 239 ∷ 187 ∷ 191 ∷ []

-- bytes without the byte-order mark that they begin with
abbrev pub behind_mark : List ℕ → List ℕ
behind_mark bytes = cond (starts_with nat_eq bytes byte_order_mark) (drop 3 bytes) bytes

-- bytes without the white space that they begin with
abbrev pub behind_white : List ℕ → List ℕ
behind_white bytes = drop (white_len bytes) bytes

-- bytes begin with a text, in any case
abbrev pub begins_with : List ℕ → List ℕ → Bool
begins_with text bytes = str_eq_ignore_ascii_case (take (length text) bytes) text

abbrev pub declaration : List ℕ
declaration = codes "<!DOCTYPE NETSCAPE-Bookmark-file-1>"

-- behind a byte-order mark and white space, where there are any, stands the declaration
abbrev pub is_declared : List ℕ → Bool
is_declared bytes = begins_with declaration (behind_white (behind_mark bytes))

-- the name of a tag ends here: its `>` or white space follows
abbrev pub ends_name : List ℕ → Bool
ends_name [] = false
ends_name (b ∷ rest) = (b == greater) || is_ascii_whitespace b

-- a list begins
abbrev pub begins_list : List ℕ → Bool
begins_list bytes = begins_with (codes "<dl") bytes && ends_name (drop 3 bytes)

-- a heading begins
abbrev pub begins_heading : List ℕ → Bool
begins_heading bytes = begins_with (codes "<h3") bytes

-- no such thing begins before a place
abbrev pub NoneBefore : (List ℕ → Bool) → ℕ → List ℕ → Type 0
NoneBefore begins n bytes = (k : ℕ) → k < n → begins (drop k bytes) ≡ false

-- a file has so many bytes before its first list: they begin with the declaration, and no heading stands among them
pub record IsHead (bytes : List ℕ) (n : ℕ) : Type 0 where
  pub within : n < length bytes
  pub declared : is_declared (take n bytes) ≡ true
  pub list : begins_list (drop n bytes) ≡ true
  pub first : NoneBefore begins_list n bytes
  pub plain : NoneBefore begins_heading n (take n bytes)

-- it has no such head
abbrev pub HasNoHead : List ℕ → Type 0
HasNoHead bytes = (n : ℕ) → IsHead bytes n → ⊥
