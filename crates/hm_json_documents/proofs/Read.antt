-- The value of a document is sound.
use Rattle.std.proofs.Common.{◌≡◌, ◌≤◌, ◌<◌, ◌^◌, ◌&&◌, ◌==◌, ℕ, zero, suc, drop, slice_index, Bool, true, false, nat_lt, nat_le, List, Option, Some, None, option_map, option_and_then, Ordering, Less, Equal, Greater, IsUtf8, ltb-true, refl, sym, ap, ap₂, ◌∙◌, subst, arith}
use Rattle.std.specs.Prelude.{IfSome}
use Rattle.std.specs.Cmp.Lexicographic.{slice_cmp}
use Rattle.std.specs.Float.{binary64, float_is_finite}
use Rattle.std.specs.Ordering.{nat_cmp, match_ordering}
use Rattle.std.proofs.lemmas.Bool.{and_parts, cond_both, leb-true, or_parts}
use Rattle.std.proofs.lemmas.Option.{same_Some}
use Rattle.fast_float.specs.Text.{minus, Parts, scan, digits_of, nearest, with_sign}
use Rattle.json.specs.Json as json
use Rattle.serde_json.specs.Data.{Num, unsigned, negative, float, Data, null, boolean, number, string, array, object, Items, no_items, item, Members, no_members, member, put, depth}
use Rattle.serde_json.specs.Find.{is_float}
use Rattle.serde_json.specs.Read.{is_integer, float_of, number_from, number_of, of_json, of_items, of_members, max_depth}
use Rattle.serde_json.specs.Written.{has_float, items_have_float, members_have_float}
use Rattle.serde_json.proofs.Nesting.{depth-read}
use Rattle.hm_json_documents.specs.Documents.{IsDocument, AreTexts, IsInteger, IsSound, ItemsAreSound, MembersAreSound}
use Rattle.hm_json_documents.proofs.Members.{put_sound}
use Rattle.hm_json_documents.proofs.Sound.{sound_texts}
use Rattle.hm_json_documents.proofs.Texts.{JsonIsText, JsonItemsAreTexts, JsonMembersAreTexts, parsed, parsed_texts}

-- ---- values with 0 in place of each float

abbrev zeroed_number : Num → Num
zeroed_number (unsigned n) = unsigned n
zeroed_number (negative z) = negative z
zeroed_number (float x) = unsigned 0

abbrev mutual
  zeroed : Data → Data
  zeroed null = null
  zeroed (boolean b) = boolean b
  zeroed (number n) = number (zeroed_number n)
  zeroed (string s) = string s
  zeroed (array ds) = array (zeroed_items ds)
  zeroed (object ms) = object (zeroed_members ms)

  zeroed_items : Items → Items
  zeroed_items no_items = no_items
  zeroed_items (item d ds) = item (zeroed d) (zeroed_items ds)

  zeroed_members : Members → Members
  zeroed_members no_members = no_members
  zeroed_members (member k d ms) = member k (zeroed d) (zeroed_members ms)

zeroed_ordered : (o : Ordering) (a b c : Members)
    → match_ordering o (zeroed_members a) (zeroed_members b) (zeroed_members c) ≡ zeroed_members (match_ordering o a b c)
zeroed_ordered Less a b c = refl
zeroed_ordered Equal a b c = refl
zeroed_ordered Greater a b c = refl

zeroed_put : (k : List ℕ) (d : Data) (ms : Members) → put k (zeroed d) (zeroed_members ms) ≡ zeroed_members (put k d ms)
zeroed_put k d no_members = refl
zeroed_put k d (member l e ms) =
    ap (λ more. match_ordering (slice_cmp nat_cmp k l) (zeroed_members (member k d (member l e ms))) (zeroed_members (member l d ms)) (member l (zeroed e) more)) (zeroed_put k d ms)
    ∙ zeroed_ordered (slice_cmp nat_cmp k l) (member k d (member l e ms)) (member l d ms) (member l e (put k d ms))

same_number : (n : Num) → is_float n ≡ false → zeroed_number n ≡ n
same_number (unsigned n) none = refl
same_number (negative z) none = refl
same_number (float x) none = let bad : ⊥ = cc in absurd bad

-- without a float, it is the value itself
mutual
  same_value : (d : Data) → has_float d ≡ false → zeroed d ≡ d
  same_value null none = refl
  same_value (boolean b) none = refl
  same_value (number n) none = ap number (same_number n none)
  same_value (string s) none = refl
  same_value (array ds) none = ap array (same_items ds none)
  same_value (object ms) none = ap object (same_members ms none)

  same_items : (ds : Items) → items_have_float ds ≡ false → zeroed_items ds ≡ ds
  same_items no_items none = refl
  same_items (item d ds) none = let parts = or_parts (has_float d) (items_have_float ds) none in ap₂ item (same_value d parts.0) (same_items ds parts.1)

  same_members : (ms : Members) → members_have_float ms ≡ false → zeroed_members ms ≡ ms
  same_members no_members none = refl
  same_members (member k d ms) none =
      let parts = or_parts (has_float d) (members_have_float ms) none in ap₂ (member k) (same_value d parts.0) (same_members ms parts.1)

-- ---- numbers

abbrev IsIntegerOrFloat : Option Num → Type 0
IsIntegerOrFloat o = IfSome o (λ n. IsInteger (zeroed_number n))

negative_integer : (n : ℕ) → 0 < n → n ≤ 2 ^ 63 → IsInteger (negative (with_sign true n))
negative_integer zero some fits = absurd (omega arith)
negative_integer (suc n) some fits = omega arith

float_number : (sign : Bool) (p : Parts) → IsIntegerOrFloat (float_of sign p)
float_number sign p = cond_both (float_is_finite (nearest binary64 sign p)) (Some (float (nearest binary64 sign p))) None IsIntegerOrFloat (λ _. omega arith) (λ _. tt)

from_number : (sign : Bool) (p : Parts) → IsIntegerOrFloat (number_from sign p)
from_number false p =
    cond_both (is_integer p && nat_lt (digits_of p) (2 ^ 64)) (Some (unsigned (digits_of p))) (float_of false p) IsIntegerOrFloat
    (λ e. ltb-true (digits_of p) (2 ^ 64) (and_parts (is_integer p) _ e).1) (λ _. float_number false p)
from_number true p =
    cond_both (is_integer p && nat_lt 0 (digits_of p) && nat_le (digits_of p) (2 ^ 63)) (Some (negative (with_sign true (digits_of p)))) (float_of true p) IsIntegerOrFloat
    (λ e. let fits = and_parts (is_integer p && nat_lt 0 (digits_of p)) (nat_le (digits_of p) (2 ^ 63)) e in
    let some = and_parts (is_integer p) (nat_lt 0 (digits_of p)) fits.0 in
    negative_integer (digits_of p) (ltb-true 0 (digits_of p) some.1) (leb-true (digits_of p) (2 ^ 63) fits.1)) (λ _. float_number true p)

number_read : (s : List ℕ) → IsIntegerOrFloat (number_of s)
unfolding number_of
number_read s =
    cond_both (slice_index s 0 == minus) (number_from true (scan (drop 1 s))) (number_from false (scan s)) IsIntegerOrFloat
    (λ _. from_number true (scan (drop 1 s))) (λ _. from_number false (scan s))

-- ---- values by their data

some_mapped : {A B : Type 0} (P : A → Type 0) (Q : B → Type 0) (f : A → B) → ((a : A) → P a → Q (f a)) → (o : Option A) → IfSome o P
    → IfSome (option_map f o) Q
some_mapped P Q f keeps None h = tt
some_mapped P Q f keeps (Some a) h = keeps a h

some_then : {A B : Type 0} (P : A → Type 0) (Q : B → Type 0) (f : A → Option B) → ((a : A) → P a → IfSome (f a) Q) → (o : Option A) → IfSome o P
    → IfSome (option_and_then f o) Q
some_then P Q f keeps None h = tt
some_then P Q f keeps (Some a) h = keeps a h

abbrev IsSoundButFloats : Data → Type 0
IsSoundButFloats d = IsSound (zeroed d)

abbrev ItemsAreSoundButFloats : Items → Type 0
ItemsAreSoundButFloats ds = ItemsAreSound (zeroed_items ds)

abbrev MembersAreSoundButFloats : Members → Type 0
MembersAreSoundButFloats ms = MembersAreSound (zeroed_members ms)

mutual
  json_sound : (j : json.Json) → JsonIsText j → IfSome (of_json j) IsSoundButFloats
  json_sound json.null text = tt
  json_sound (json.boolean b) text = tt
  json_sound (json.number s) text = some_mapped (λ n. IsInteger (zeroed_number n)) IsSoundButFloats number (λ n p. p) (number_of s) (number_read s)
  json_sound (json.string s) text = text
  json_sound (json.array js) text = some_mapped ItemsAreSoundButFloats IsSoundButFloats array (λ ds p. p) (of_items js) (items_sound js text)
  json_sound (json.object ms) text = some_mapped MembersAreSoundButFloats IsSoundButFloats object (λ ds p. p) (of_members ms no_members) (members_sound ms no_members text tt)

  items_sound : (js : json.Items) → JsonItemsAreTexts js → IfSome (of_items js) ItemsAreSoundButFloats
  items_sound json.no_items texts = tt
  items_sound (json.item j js) texts =
      some_then IsSoundButFloats ItemsAreSoundButFloats (λ d. option_map (item d) (of_items js))
      (λ d p. some_mapped ItemsAreSoundButFloats ItemsAreSoundButFloats (item d) (λ ds q. (p, q)) (of_items js) (items_sound js texts.1)) (of_json j) (json_sound j texts.0)

  members_sound : (ms : json.Members) (found : Members) → JsonMembersAreTexts ms → MembersAreSoundButFloats found → IfSome (of_members ms found) MembersAreSoundButFloats
  members_sound json.no_members found texts sound = sound
  members_sound (json.member k j ms) found texts sound =
      some_then IsSoundButFloats MembersAreSoundButFloats (λ d. of_members ms (put k d found))
      (λ d p. members_sound ms (put k d found) texts.2
      (subst MembersAreSound (zeroed_put k d found) (put_sound k (zeroed d) (zeroed_members found) texts.0 p sound))) (of_json j) (json_sound j texts.1)

-- ---- documents

-- the value of a document that is UTF-8 is sound
pub read_sound : (bytes : List ℕ) (d : Data) → IsUtf8 bytes → IsDocument bytes d → IsSound d
read_sound bytes d utf8 is =
    let all = some_then JsonIsText IsSoundButFloats of_json json_sound (parsed bytes) (parsed_texts bytes utf8) in
    subst IsSound (same_value d is.no_float) (subst (λ o. IfSome o IsSoundButFloats) is.is_read all)

-- its strings and keys are UTF-8
pub document_texts : (bytes : List ℕ) (d : Data) → IsUtf8 bytes → IsDocument bytes d → AreTexts d
document_texts bytes d utf8 is = sound_texts d (read_sound bytes d utf8 is)

-- the value of a document nests at most 127 deep
pub document_depth : (bytes : List ℕ) (d : Data) → IsDocument bytes d → depth d ≤ max_depth
document_depth bytes d is = depth-read bytes d is.is_read

-- bytes are the document of one value at most
pub document_known : (bytes : List ℕ) (d e : Data) → IsDocument bytes d → IsDocument bytes e → d ≡ e
document_known bytes d e p q = same_Some d e (sym p.is_read ∙ q.is_read)
