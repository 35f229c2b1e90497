-- Characters that are spelled by entities: `&amp;`, `&lt;`, `&gt;`, `&quot;`, and `&#N;` with one to seven digits.
use Rattle.std.specs.Prelude.{◌≡◌, ℕ, ◌+◌, ◌-◌, ◌*◌, zero, suc, Bool, false, cond, ◌&&◌, List, [], ◌∷◌, ◌++◌, take, slice_index, Option, Some, None, codes}
use Rattle.std.specs.Bool.{◌==◌, nat_eq, nat_lt}
use Rattle.std.specs.List.{flat_map, list_any, prefix_len, starts_with}
use Rattle.std.specs.Char.{is_ascii_digit, encode_utf8}
use Rattle.hm_marks_tokens.specs.Bytes.{less, greater, quote, has_less, has_quote}
use lib.Utf8.{scalar}

-- `&`
abbrev pub ampersand : ℕ
ampersand = 38

-- some of these bytes is `&`
abbrev pub has_ampersand : List ℕ → Bool
has_ampersand bytes = list_any (λ b. b == ampersand) bytes

-- `;`
abbrev pub semicolon : ℕ
semicolon = 59

-- `#`
abbrev pub number_sign : ℕ
number_sign = 35

-- the number of digits, behind those of another number
abbrev pub decimal_behind : ℕ → List ℕ → ℕ
decimal_behind n [] = n
decimal_behind n (d ∷ ds) = decimal_behind (n * 10 + (d - 48)) ds

-- the bytes of the character of a number, and how many bytes its entity has behind the `&`; none for a number without a character
abbrev pub character : ℕ → ℕ → Option (List ℕ × ℕ)
character c len = cond (scalar c) (Some (encode_utf8 c, len)) None

-- one to seven
abbrev pub are_few : ℕ → Bool
are_few n = nat_lt 0 n && nat_lt n 8

-- the same for an entity that goes on behind `&#`
abbrev pub number_at : List ℕ → Option (List ℕ × ℕ)
number_at rest =
    let n = prefix_len is_ascii_digit rest in
    cond (are_few n && (slice_index rest n == semicolon)) (character (decimal_behind 0 (take n rest)) (n + 2)) None

-- the same for one of a number that goes on behind `&`
abbrev pub numbered : List ℕ → Option (List ℕ × ℕ)
numbered [] = None
numbered (b ∷ behind) = cond (b == number_sign) (number_at behind) None

-- the same for any that goes on behind `&`
abbrev pub entity_at : List ℕ → Option (List ℕ × ℕ)
entity_at rest =
    cond (starts_with nat_eq rest (codes "amp;")) (Some (ampersand ∷ [], 4))
    (cond (starts_with nat_eq rest (codes "lt;")) (Some (less ∷ [], 3))
    (cond (starts_with nat_eq rest (codes "gt;")) (Some (greater ∷ [], 3))
    (cond (starts_with nat_eq rest (codes "quot;")) (Some (quote ∷ [], 5))
    (numbered rest))))

-- what a `&` is read as, and how many bytes behind it are read with it: the character of its entity, or itself where it has none
abbrev pub read_at : Option (List ℕ × ℕ) → List ℕ × ℕ
read_at None = (ampersand ∷ [], 0)
read_at (Some e) = e

-- the same of any byte, by those behind it
abbrev pub read_byte : ℕ → List ℕ → List ℕ × ℕ
read_byte b rest = cond (b == ampersand) (read_at (entity_at rest)) (b ∷ [], 0)

-- bytes with their entities read, where so many of the first were read before
abbrev pub unescaped_behind : ℕ → List ℕ → List ℕ
unescaped_behind n [] = []
unescaped_behind (suc n) (b ∷ rest) = unescaped_behind n rest
unescaped_behind zero (b ∷ rest) = (read_byte b rest).0 ++ unescaped_behind (read_byte b rest).1 rest

-- bytes with their entities read
abbrev pub unescaped : List ℕ → List ℕ
unescaped bytes = unescaped_behind 0 bytes

-- ---- writing

-- a byte as it is written
abbrev pub escaped_byte : ℕ → List ℕ
escaped_byte b =
    cond (b == ampersand) (codes "&amp;")
    (cond (b == less) (codes "&lt;")
    (cond (b == greater) (codes "&gt;")
    (cond (b == quote) (codes "&quot;") (b ∷ []))))

-- bytes as they are written, with entities for `&`, `<`, `>` and `"`
abbrev pub escaped : List ℕ → List ℕ
escaped bytes = flat_map escaped_byte bytes

-- bytes that may stand in a title, and between the quotes of an attribute
pub record IsPlain (bytes : List ℕ) : Type 0 where
  pub less : has_less bytes ≡ false
  pub quote : has_quote bytes ≡ false
