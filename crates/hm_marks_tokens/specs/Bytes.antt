-- Bytes that tokens and attributes are cut at, and white space: tab, LF, FF, CR and space, as in HTML.
use Rattle.std.specs.Prelude.{ℕ, Bool, true, List, [], ◌∷◌}
use Rattle.std.specs.Bool.{◌==◌}
use Rattle.std.specs.Char.{is_ascii_whitespace}
use Rattle.std.specs.List.{list_all, list_any}

-- `<`
abbrev pub less : ℕ
less = 60

-- `>`
abbrev pub greater : ℕ
greater = 62

-- `"`
abbrev pub quote : ℕ
quote = 34

-- `=`
abbrev pub equals : ℕ
equals = 61

-- some of these bytes is `<`
abbrev pub has_less : List ℕ → Bool
has_less bytes = list_any (λ b. b == less) bytes

-- some of them is `"`
abbrev pub has_quote : List ℕ → Bool
has_quote bytes = list_any (λ b. b == quote) bytes

-- all of them are white space
abbrev pub is_white : List ℕ → Bool
is_white bytes = list_all is_ascii_whitespace bytes

-- the first of them is white space, or there is none
abbrev pub begins_white : List ℕ → Bool
begins_white [] = true
begins_white (b ∷ rest) = is_ascii_whitespace b
