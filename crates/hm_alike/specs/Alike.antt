-- Names that are probably one thing under two names: the same but for case, for spaces at the ends or doubled, or for
-- Unicode normal form.
use Rattle.std.specs.Prelude.{◌≡◌, ◌≤◌, ◌↔◌, Bool, true, false, List, [], ◌∷◌, map, filter, length, Contains, bytes_eq, chars, encode_utf8_all}
use Rattle.std.specs.Bool.{◌==◌}
use Rattle.std.specs.List.{slice_split, join_with_byte}
use Rattle.std.specs.List.Sorted.{IsStrictlySortedBy}
use Rattle.caseless.specs.Caseless.{compatibility_key}
use Rattle.hm_tree.specs.Names.{Name, name_cmp}

-- what is the same of two names where they match but for case and compatibility, whatever their normal form (The Unicode
-- Standard, section 3.13, D146)
abbrev pub caseless_key : Name → Name
caseless_key n = encode_utf8_all (compatibility_key (chars n))

-- has a byte at least
abbrev pub is_filled : Name → Bool
is_filled [] = false
is_filled (b ∷ n) = true

-- the pieces of a name between its spaces, without the empty ones
abbrev pub words : Name → List Name
words n = filter is_filled (slice_split (λ b. b == 32) n)

-- a name without spaces at its ends, and with one for each run of spaces
abbrev pub squeezed : Name → Name
squeezed n = join_with_byte 32 (words n)

-- what is left of a name without what may differ between two spellings of one thing
unfoldable pub folded : Name → Name
folded n = squeezed (caseless_key n)

-- the names of a list with this folded name, in their order
abbrev pub folded_to : List Name → Name → List Name
folded_to names text = filter (λ n. bytes_eq (folded n) text) names

-- the names of a list that are alike to this one, in their order
abbrev pub alike_to : List Name → Name → List Name
alike_to names k = folded_to names (folded k)

-- the names of a list that are alike to one of them, where they are two at least
abbrev pub IsClass : List Name → List Name → Type 0
IsClass names c = (k : Name) × Contains names k × (c ≡ alike_to names k) × (2 ≤ length c)

-- the first of some names
abbrev pub first_name : List Name → Name
first_name [] = []
first_name (n ∷ _) = n

-- all classes of the names of a list, each once, in the order of their first names
pub record AreClasses (names : List Name) (classes : List (List Name)) : Type 0 where
  pub each : (c : List Name) → Contains classes c ↔ IsClass names c
  pub ascending : IsStrictlySortedBy name_cmp (map first_name classes)
