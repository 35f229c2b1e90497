-- Attributes may stand in a tag.
use Rattle.std.proofs.Common.{◌≡◌, ◌≢◌, ℕ, Bool, true, false, not, ◌&&◌, ◌||◌, List, [], ◌∷◌, ◌++◌, refl, sym, ap, ◌∙◌, subst}
use Rattle.std.specs.Bool.{◌==◌}
use Rattle.std.specs.Char.{is_ascii_whitespace}
use Rattle.std.specs.List.{list_all, AllByRecursion}
use Rattle.std.proofs.lemmas.Bool.{and_parts, or_parts, eqb-true, not-true}
use Rattle.std.proofs.lemmas.List.{append_assoc}
use Rattle.hm_marks_tokens.specs.Bytes.{greater, quote, has_quote, is_white, begins_white}
use Rattle.hm_marks_tokens.specs.Tokens.{is_inside}
use Rattle.hm_marks_tokens.specs.Lines.{AreBehindName}
use Rattle.hm_marks_tokens.specs.Attributes.{Value, bare, quoted, run, Attribute, spelled_value, spelled_attribute, spelled_attributes, is_of_name, is_of_run, IsValue, IsAttribute, AreAttributes}

-- a byte that passes a test isn't one that doesn't
pub apart : (test : ℕ → Bool) (b x : ℕ) → test b ≡ true → test x ≡ false → (b == x) ≡ false
apart test b x passes fails = go (b == x) refl
  where
    go : (t : Bool) → (b == x) ≡ t → t ≡ false
    go true e = let no : true ≡ false = sym passes ∙ ap test (eqb-true b x e) ∙ fails in let bad : ⊥ = cc in absurd bad
    go false e = refl

-- bytes that are neither `"` nor `>`
abbrev is_calm : ℕ → Bool
is_calm b = not ((b == quote) || (b == greater))

calm_by : (test : ℕ → Bool) → test quote ≡ false → test greater ≡ false → (bytes : List ℕ) → list_all test bytes ≡ true → list_all is_calm bytes ≡ true
calm_by test q g [] all = refl
calm_by test q g (b ∷ bytes) all =
    let parts = and_parts (test b) (list_all test bytes) all in
    rw (apart test b quote parts.0 q, apart test b greater parts.0 g) (calm_by test q g bytes parts.1)

calm_inside : (bytes rest : List ℕ) → list_all is_calm bytes ≡ true → is_inside false (bytes ++ rest) ≡ is_inside false rest
calm_inside [] rest all = refl
calm_inside (b ∷ bytes) rest all =
    let parts = and_parts (is_calm b) (list_all is_calm bytes) all in
    let none = or_parts (b == quote) (b == greater) (not-true ((b == quote) || (b == greater)) parts.0) in
    rw (none.0, none.1) (calm_inside bytes rest parts.1)

quoted_inside : (bytes rest : List ℕ) → has_quote bytes ≡ false → is_inside true (bytes ++ rest) ≡ is_inside true rest
quoted_inside [] rest none = refl
quoted_inside (b ∷ bytes) rest none =
    let parts = or_parts (b == quote) (has_quote bytes) none in
    rw (parts.0) (go (b == greater) (quoted_inside bytes rest parts.1))
  where
    go : (t : Bool) → is_inside true (bytes ++ rest) ≡ is_inside true rest → (not (t && false) && is_inside true (bytes ++ rest)) ≡ is_inside true rest
    go true e = e
    go false e = e

white_calm : (bytes : List ℕ) → is_white bytes ≡ true → list_all is_calm bytes ≡ true
white_calm bytes all = calm_by is_ascii_whitespace refl refl bytes all

run_calm : (bytes : List ℕ) → list_all is_of_run bytes ≡ true → list_all is_calm bytes ≡ true
run_calm bytes all = calm_by is_of_run refl refl bytes all

value_inside : (v : Value) (rest : List ℕ) → IsValue v → is_inside false (spelled_value v ++ rest) ≡ is_inside false rest
value_inside bare rest is = refl
value_inside (quoted bytes) rest is =
    ap (is_inside true) (append_assoc bytes (quote ∷ []) rest) ∙ quoted_inside bytes (quote ∷ rest) is
value_inside (run bytes) rest is = calm_inside bytes rest (run_calm bytes is)

attribute_inside : (a : Attribute) (rest : List ℕ) → IsAttribute a → is_inside false (spelled_attribute a ++ rest) ≡ is_inside false rest
attribute_inside a rest is =
    ap (is_inside false) (append_assoc a.blank (a.name ++ spelled_value a.value) rest)
    ∙ calm_inside a.blank ((a.name ++ spelled_value a.value) ++ rest) (white_calm a.blank is.white)
    ∙ ap (is_inside false) (append_assoc a.name (spelled_value a.value) rest)
    ∙ calm_inside a.name (spelled_value a.value ++ rest) (calm_by is_of_name refl refl a.name is.name)
    ∙ value_inside a.value rest is.value

attributes_inside : (xs : List Attribute) (rest : List ℕ) → AllByRecursion IsAttribute xs → is_inside false (spelled_attributes xs ++ rest) ≡ is_inside false rest
attributes_inside [] rest each = refl
attributes_inside (a ∷ xs) rest each =
    ap (is_inside false) (append_assoc (spelled_attribute a) (spelled_attributes xs) rest)
    ∙ attribute_inside a (spelled_attributes xs ++ rest) each.0 ∙ attributes_inside xs rest each.1

white_begins : (bytes rest : List ℕ) → bytes ≢ [] → is_white bytes ≡ true → begins_white (bytes ++ rest) ≡ true
white_begins [] rest some white = absurd (some refl)
white_begins (b ∷ bytes) rest some white = (and_parts (is_ascii_whitespace b) (is_white bytes) white).0

ending_begins : (ending : List ℕ) → is_white ending ≡ true → begins_white ending ≡ true
ending_begins [] white = refl
ending_begins (b ∷ ending) white = (and_parts (is_ascii_whitespace b) (is_white ending) white).0

pub all_begin : (xs : List Attribute) (ending : List ℕ) → AllByRecursion IsAttribute xs → is_white ending ≡ true
    → begins_white (spelled_attributes xs ++ ending) ≡ true
all_begin [] ending each white = ending_begins ending white
all_begin (a ∷ xs) ending each white =
    subst (λ l. begins_white l ≡ true)
    (sym (append_assoc (spelled_attribute a) (spelled_attributes xs) ending ∙ append_assoc a.blank (a.name ++ spelled_value a.value) (spelled_attributes xs ++ ending)))
    (white_begins a.blank ((a.name ++ spelled_value a.value) ++ (spelled_attributes xs ++ ending)) each.0.apart each.0.white)

white_inside : (bytes : List ℕ) → is_white bytes ≡ true → is_inside false bytes ≡ true
white_inside [] all = refl
white_inside (b ∷ bytes) all =
    let parts = and_parts (is_ascii_whitespace b) (is_white bytes) all in
    rw (apart is_ascii_whitespace b greater parts.0 refl, apart is_ascii_whitespace b quote parts.0 refl) (white_inside bytes parts.1)

-- attributes may stand in a tag
pub attributes_stand : (bytes : List ℕ) (xs : List Attribute) (ending : List ℕ) → AreAttributes bytes xs ending → AreBehindName bytes
attributes_stand bytes xs ending are =
    record {
      apart = ap begins_white are.are ∙ all_begin xs ending are.each are.white;
      inside = ap (is_inside false) are.are ∙ attributes_inside xs ending are.each ∙ white_inside ending are.white;
    }
