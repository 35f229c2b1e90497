-- The attributes of a tag, between its name and its `>`.
use Rattle.std.specs.Prelude.{◌≡◌, ◌≢◌, ℕ, zero, suc, ◌+◌, length, take, drop, Bool, true, false, not, cond, ◌&&◌, ◌||◌, List, [], ◌∷◌, ◌++◌, Option, Some, None, codes}
use Rattle.std.specs.Bool.{◌==◌, nat_lt}
use Rattle.std.specs.List.{list_all, flat_map, prefix_len, position_or_len, AllByRecursion}
use Rattle.std.specs.Char.{is_ascii_alphanumeric, is_ascii_whitespace}
use Rattle.std.specs.Option.{is_some}
use Rattle.std.specs.Str.{str_eq_ignore_ascii_case}
use Rattle.hm_marks_tokens.specs.Bytes.{greater, quote, equals, has_quote, is_white, begins_white}

-- what stands behind a name: nothing, `="` up to `"`, or `=` and a run of other bytes
pub data Value : Type 0 where
  bare : Value
  quoted : List ℕ → Value
  run : List ℕ → Value

-- an attribute, with the white space before it
pub record Attribute : Type 0 where
  pub blank : List ℕ
  pub name : List ℕ
  pub value : Value

-- a value without `=` and quotes
abbrev pub value_bytes : Value → List ℕ
value_bytes bare = []
value_bytes (quoted bytes) = bytes
value_bytes (run bytes) = bytes

-- the bytes of a value behind the name
abbrev pub spelled_value : Value → List ℕ
spelled_value bare = []
spelled_value (quoted bytes) = equals ∷ quote ∷ (bytes ++ quote ∷ [])
spelled_value (run bytes) = equals ∷ bytes

-- the bytes of an attribute
abbrev pub spelled_attribute : Attribute → List ℕ
spelled_attribute a = a.blank ++ (a.name ++ spelled_value a.value)

-- those of some attributes
abbrev pub spelled_attributes : List Attribute → List ℕ
spelled_attributes xs = flat_map spelled_attribute xs

-- letters and digits of ASCII, `_` and `-`
abbrev pub is_of_name : ℕ → Bool
is_of_name b = is_ascii_alphanumeric b || ((b == 95) || (b == 45))

-- neither white space, `"` nor `>`
abbrev pub is_of_run : ℕ → Bool
is_of_run b = not (is_ascii_whitespace b) && not ((b == quote) || (b == greater))

-- a value that can be spelled
abbrev pub IsValue : Value → Type 0
IsValue bare = Unit {0}
IsValue (quoted bytes) = has_quote bytes ≡ false
IsValue (run bytes) = list_all is_of_run bytes ≡ true

-- an attribute that can be: white space, a name, and a value
pub record IsAttribute (a : Attribute) : Type 0 where
  pub apart : a.blank ≢ []
  pub white : is_white a.blank ≡ true
  pub named : a.name ≢ []
  pub name : list_all is_of_name a.name ≡ true
  pub value : IsValue a.value

-- bytes are these attributes, with white space behind them
pub record AreAttributes (bytes : List ℕ) (xs : List Attribute) (ending : List ℕ) : Type 0 where
  pub are : bytes ≡ spelled_attributes xs ++ ending
  pub each : AllByRecursion IsAttribute xs
  pub white : is_white ending ≡ true

-- bytes begin with an attribute, behind which white space or nothing follows
pub record IsFirst (bytes : List ℕ) (a : Attribute) (rest : List ℕ) : Type 0 where
  pub are : bytes ≡ spelled_attribute a ++ rest
  pub is : IsAttribute a
  pub ends : begins_white rest ≡ true

-- ---- addresses

-- an `HREF`, in any case
abbrev pub is_address : Attribute → Bool
is_address a = str_eq_ignore_ascii_case a.name (codes "href")

-- the value of the first `HREF`
abbrev pub first_address : List Attribute → Option (List ℕ)
first_address [] = None
first_address (a ∷ xs) = cond (is_address a) (Some (value_bytes a.value)) (first_address xs)

-- an attribute with another value, in quotes
abbrev pub with_value : Attribute → List ℕ → Attribute
with_value a bytes = record { blank = a.blank; name = a.name; value = quoted bytes }

-- attributes with another value of the first `HREF`
abbrev pub with_first_address : List ℕ → List Attribute → List Attribute
with_first_address bytes [] = []
with_first_address bytes (a ∷ xs) = cond (is_address a) (with_value a bytes ∷ xs) (a ∷ with_first_address bytes xs)

-- ---- finding them

-- how many bytes of white space bytes begin with
abbrev pub white_len : List ℕ → ℕ
white_len bytes = prefix_len is_ascii_whitespace bytes

-- how long a name is that bytes begin with
abbrev pub word_len : List ℕ → ℕ
word_len bytes = prefix_len is_of_name bytes

-- how long a run is that bytes begin with
abbrev pub run_len : List ℕ → ℕ
run_len bytes = prefix_len is_of_run bytes

-- how many bytes stand before the next `"`, or before the end
abbrev pub unquoted_len : List ℕ → ℕ
unquoted_len bytes = position_or_len (λ b. b == quote) bytes

-- the value behind `="`, and what stands behind it
abbrev pub quoted_at : List ℕ → Option (Value × List ℕ)
quoted_at bytes =
    cond (nat_lt (unquoted_len bytes) (length bytes)) (Some (quoted (take (unquoted_len bytes) bytes), drop (unquoted_len bytes + 1) bytes)) None

-- the same behind `=`
abbrev pub value_behind : List ℕ → Option (Value × List ℕ)
value_behind [] = Some (run [], [])
value_behind (b ∷ rest) = cond (b == quote) (quoted_at rest) (Some (run (take (run_len (b ∷ rest)) (b ∷ rest)), drop (run_len (b ∷ rest)) (b ∷ rest)))

-- the same behind a name
abbrev pub value_at : List ℕ → Option (Value × List ℕ)
value_at [] = Some (bare, [])
value_at (b ∷ rest) = cond (b == equals) (value_behind rest) (Some (bare, b ∷ rest))

-- an attribute by its parts, where white space or nothing follows
abbrev pub attribute_of : List ℕ → List ℕ → Option (Value × List ℕ) → Option (Attribute × List ℕ)
attribute_of blank name None = None
attribute_of blank name (Some v) = cond (begins_white v.1) (Some (record { blank = blank; name = name; value = v.0 }, v.1)) None

-- the attribute of a name that bytes begin with, behind white space
abbrev pub named_at : List ℕ → List ℕ → Option (Attribute × List ℕ)
named_at blank bytes =
    cond (nat_lt 0 (word_len bytes)) (attribute_of blank (take (word_len bytes) bytes) (value_at (drop (word_len bytes) bytes))) None

-- the attribute that bytes begin with, and what stands behind it
abbrev pub attribute_at : List ℕ → Option (Attribute × List ℕ)
attribute_at bytes = cond (nat_lt 0 (white_len bytes)) (named_at (take (white_len bytes) bytes) (drop (white_len bytes) bytes)) None

-- ---- all of them

-- an attribute before those that are found behind it, where there is one
abbrev pub first_and : (List ℕ → List Attribute × List ℕ) → List ℕ → Option (Attribute × List ℕ) → List Attribute × List ℕ
first_and more bytes None = ([], bytes)
first_and more bytes (Some f) = (f.0 ∷ (more f.1).0, (more f.1).1)

-- the attributes that bytes begin with, so many at the most, and what stands behind them
abbrev pub attributes_within : ℕ → List ℕ → List Attribute × List ℕ
attributes_within zero bytes = ([], bytes)
attributes_within (suc n) bytes = first_and (attributes_within n) bytes (attribute_at bytes)

-- the attributes that bytes begin with, and what stands behind the last of them
unfoldable pub attributes_of : List ℕ → List Attribute × List ℕ
attributes_of bytes = attributes_within (length bytes) bytes

-- bytes are attributes, with white space or nothing behind them
abbrev pub are_attributes : List ℕ → Bool
are_attributes bytes = is_white (attributes_of bytes).1

-- the address of a link that has these attributes
abbrev pub address_of : List ℕ → Option (List ℕ)
address_of bytes = first_address (attributes_of bytes).0

-- bytes are attributes, and an address is among them
abbrev pub are_of_link : List ℕ → Bool
are_of_link bytes = are_attributes bytes && is_some (address_of bytes)

-- the same with another address, which is spelled by these bytes
abbrev pub with_address : List ℕ → List ℕ → List ℕ
with_address address bytes = spelled_attributes (with_first_address address (attributes_of bytes).0) ++ (attributes_of bytes).1
