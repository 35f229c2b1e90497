-- All attributes of bytes: what is found are such, and such are found.
use Rattle.std.proofs.Common.{◌≡◌, ◌≢◌, ℕ, zero, suc, ◌<◌, ◌≤◌, Bool, true, false, cond, List, [], ◌∷◌, ◌++◌, length, Option, Some, None, refl, sym, ap, ◌∙◌, arith}
use Rattle.std.specs.Prelude.{IfSome, IsTrue, MatchOption, ◌↔◌}
use Rattle.std.specs.Borrow.{Bor}
use Rattle.std.specs.Char.{is_ascii_whitespace}
use Rattle.std.specs.List.{list_all, AllByRecursion}
use Rattle.std.proofs.lemmas.Bool.{and_parts, true≢false}
use Rattle.std.proofs.lemmas.Option.{none-some}
use Rattle.std.proofs.lemmas.List.{append_assoc, length-append}
use Rattle.std.proofs.lemmas.List.Folds.{list_all-append}
use Rattle.hm_marks_tokens.specs.declared.attributes.Attribute.{Attribute as LentAttribute}
use Rattle.hm_marks_tokens.specs.Bytes.{is_white}
use Rattle.hm_marks_tokens.specs.Attributes.{Attribute, value_bytes, spelled_value, spelled_attribute, spelled_attributes, is_of_name, IsAttribute, AreAttributes, IsFirst, is_address, first_address, attribute_at, first_and, attributes_within, attributes_of, are_attributes, address_of}
use Rattle.hm_marks_tokens.specs.Lent.{attribute_seen}
use Rattle.hm_marks_tokens.proofs.Attributed.{all_begin}
use Rattle.hm_marks_tokens.proofs.AttributesRead.{not_white_name, first_found, found_first}

-- ---- the first of them

some_bytes : (xs : List ℕ) → xs ≢ [] → 0 < length xs
some_bytes [] some = absurd (some refl)
some_bytes (x ∷ xs) some = omega arith

-- what stands behind it is shorter
shorter : (bytes : List ℕ) (a : Attribute) (rest : List ℕ) → IsFirst bytes a rest → length rest < length bytes
shorter bytes a rest first =
    let all = ap length first.are ∙ length-append (spelled_attribute a) rest in
    let front = length-append a.blank (a.name ++ spelled_value a.value) in
    let some = some_bytes a.blank first.is.apart in
    omega (arith, all, front, some)

pub found_shorter : (bytes : List ℕ) (r : Option (LentAttribute × Bor (List ℕ)))
    → MatchOption r ((a : Attribute) (rest : List ℕ) → IsFirst bytes a rest → ⊥) (λ f. IsFirst bytes (attribute_seen f.0) f.1.now)
    → IfSome r (λ f. length f.1.now < length bytes)
found_shorter bytes None none = tt
found_shorter bytes (Some f) first = shorter bytes (attribute_seen f.0) f.1.now first

-- there is none, where none is one
pub none_found : (bytes : List ℕ) → ((a : Attribute) (rest : List ℕ) → IsFirst bytes a rest → ⊥) → attribute_at bytes ≡ None
none_found bytes none = go (attribute_at bytes) (found_first bytes)
  where
    go : (o : Option (Attribute × List ℕ)) → IfSome o (λ f. IsFirst bytes f.0 f.1) → o ≡ None
    go None h = refl
    go (Some f) h = absurd (none f.0 f.1 h)

-- white space has none
white_none : (bytes : List ℕ) → is_white bytes ≡ true → (a : Attribute) (rest : List ℕ) → IsFirst bytes a rest → ⊥
white_none bytes white a rest first =
    let all = sym (ap is_white first.are) ∙ white in
    let front = (and_parts (is_white (spelled_attribute a)) (is_white rest) (sym (list_all-append is_ascii_whitespace (spelled_attribute a) rest) ∙ all)).0 in
    let tail = a.name ++ spelled_value a.value in
    let named = (and_parts (is_white a.blank) (is_white tail) (sym (list_all-append is_ascii_whitespace a.blank tail) ∙ front)).1 in
    go a.name first.is.named first.is.name named
  where
    go : (name : List ℕ) → name ≢ [] → list_all is_of_name name ≡ true → is_white (name ++ spelled_value a.value) ≡ true → ⊥
    go [] some of_name is = some refl
    go (x ∷ name) some of_name is =
        let one = (and_parts (is_of_name x) (list_all is_of_name name) of_name).0 in
        let other = (and_parts (is_ascii_whitespace x) (is_white (name ++ spelled_value a.value)) is).0 in
        true≢false (sym other ∙ not_white_name x one)

-- ---- one more

-- as many as there are bytes are enough
enough : (n m : ℕ) (bytes : List ℕ) → length bytes ≤ n → length bytes ≤ m → attributes_within n bytes ≡ attributes_within m bytes
enough zero zero bytes hn hm = refl
enough zero (suc m) [] hn hm = refl
enough zero (suc m) (b ∷ bytes) hn hm = absurd (omega arith)
enough (suc n) zero [] hn hm = refl
enough (suc n) zero (b ∷ bytes) hn hm = absurd (omega arith)
enough (suc n) (suc m) bytes hn hm = go (attribute_at bytes) (found_first bytes) (λ l a b. enough n m l a b)
  where
    go : (o : Option (Attribute × List ℕ)) → IfSome o (λ f. IsFirst bytes f.0 f.1)
        → ((l : List ℕ) → length l ≤ n → length l ≤ m → attributes_within n l ≡ attributes_within m l)
        → first_and (attributes_within n) bytes o ≡ first_and (attributes_within m) bytes o
    go None h more = refl
    go (Some f) h more =
        let lt = shorter bytes f.0 f.1 h in
        let same = more f.1 (omega (arith, lt)) (omega (arith, lt)) in
        ap (λ (r : List Attribute × List ℕ). (f.0 ∷ r.0, r.1)) same

pub none_more : (bytes : List ℕ) → attribute_at bytes ≡ None → attributes_of bytes ≡ ([], bytes)
unfolding attributes_of
none_more [] e = refl
none_more (b ∷ bytes) e = ap (first_and (attributes_within (length bytes)) (b ∷ bytes)) e

pub one_more : (bytes : List ℕ) (a : Attribute) (rest : List ℕ) → IsFirst bytes a rest → attributes_of bytes ≡ (a ∷ (attributes_of rest).0, (attributes_of rest).1)
unfolding attributes_of
one_more [] a rest first = absurd (none-some (a, rest) (first_found [] a rest first))
one_more (b ∷ bytes) a rest first =
    let lt = shorter (b ∷ bytes) a rest first in
    ap (first_and (attributes_within (length bytes)) (b ∷ bytes)) (first_found (b ∷ bytes) a rest first)
    ∙ ap (λ (r : List Attribute × List ℕ). (a ∷ r.0, r.1)) (enough (length bytes) (length rest) rest (omega (arith, lt)) (omega arith))

-- ---- what a search finds, an attribute after the other

module _ (bytes : List ℕ) (a : Attribute) (rest : List ℕ) (first : IsFirst bytes a rest) where
  pub behind_first : (attributes_of bytes).1 ≡ (attributes_of rest).1
  behind_first = ap (λ (r : List Attribute × List ℕ). r.1) (one_more bytes a rest first)

  found_first_address : address_of bytes ≡ cond (is_address a) (Some (value_bytes a.value)) (address_of rest)
  found_first_address = ap (λ (r : List Attribute × List ℕ). first_address r.0) (one_more bytes a rest first)

  pub address_here : is_address a ≡ true → address_of bytes ≡ Some (value_bytes a.value)
  address_here is = found_first_address ∙ ap (λ t. cond t (Some (value_bytes a.value)) (address_of rest)) is

  pub address_behind : is_address a ≡ false → address_of bytes ≡ address_of rest
  address_behind is = found_first_address ∙ ap (λ t. cond t (Some (value_bytes a.value)) (address_of rest)) is

module _ (bytes : List ℕ) (none : (a : Attribute) (rest : List ℕ) → IsFirst bytes a rest → ⊥) where
  pub behind_none : (attributes_of bytes).1 ≡ bytes
  behind_none = ap (λ (r : List Attribute × List ℕ). r.1) (none_more bytes (none_found bytes none))

  pub no_address : address_of bytes ≡ None
  no_address = ap (λ (r : List Attribute × List ℕ). first_address r.0) (none_more bytes (none_found bytes none))

-- ---- attributes

-- those that bytes are spelled by are found
pub are_found : (bytes : List ℕ) (xs : List Attribute) (ending : List ℕ) → AreAttributes bytes xs ending → attributes_of bytes ≡ (xs, ending)
are_found bytes [] ending are = ap attributes_of are.are ∙ none_more ending (none_found ending (white_none ending are.white))
are_found bytes (a ∷ xs) ending are =
    let rest = spelled_attributes xs ++ ending in
    let begins = all_begin xs ending are.each.1 are.white in
    ap attributes_of (are.are ∙ append_assoc (spelled_attribute a) (spelled_attributes xs) ending)
    ∙ one_more (spelled_attribute a ++ rest) a rest (record { are = refl; is = are.each.0; ends = begins })
    ∙ ap (λ (r : List Attribute × List ℕ). (a ∷ r.0, r.1)) (are_found rest xs ending (record { are = refl; each = are.each.1; white = are.white }))

-- what is found are attributes, with a rest
pub record AreFound (bytes : List ℕ) (r : List Attribute × List ℕ) : Type 0 where
  pub are : bytes ≡ spelled_attributes r.0 ++ r.1
  pub each : AllByRecursion IsAttribute r.0

found_within : (n : ℕ) (bytes : List ℕ) → AreFound bytes (attributes_within n bytes)
found_within zero bytes = record { are = refl; each = tt }
found_within (suc n) bytes = go (attribute_at bytes) (found_first bytes) (λ l. found_within n l)
  where
    go : (o : Option (Attribute × List ℕ)) → IfSome o (λ f. IsFirst bytes f.0 f.1) → ((l : List ℕ) → AreFound l (attributes_within n l))
        → AreFound bytes (first_and (attributes_within n) bytes o)
    go None h more = record { are = refl; each = tt }
    go (Some f) h more =
        let r = more f.1 in
        record {
          are =
              h.are ∙ ap (λ l. spelled_attribute f.0 ++ l) r.are
              ∙ sym (append_assoc (spelled_attribute f.0) (spelled_attributes (attributes_within n f.1).0) (attributes_within n f.1).1);
          each = (h.is, r.each);
        }

pub found_all : (bytes : List ℕ) → AreFound bytes (attributes_of bytes)
unfolding attributes_of
found_all bytes = found_within (length bytes) bytes

-- bytes that are attributes are those that are found
pub found_attributes : (bytes : List ℕ) → are_attributes bytes ≡ true → AreAttributes bytes (attributes_of bytes).0 (attributes_of bytes).1
found_attributes bytes are = record { are = (found_all bytes).are; each = (found_all bytes).each; white = are }

-- what a search answers, by the grammar
pub by_attributes : (bytes : List ℕ) (b : Bool) → b ≡ is_white (attributes_of bytes).1
    → IsTrue b ↔ ((attributes : List Attribute) × (ending : List ℕ) × AreAttributes bytes attributes ending)
by_attributes bytes b e = (
  λ is. ((attributes_of bytes).0, (attributes_of bytes).1, record { are = (found_all bytes).are; each = (found_all bytes).each; white = sym e ∙ is }),
  λ has. e ∙ ap (λ (r : List Attribute × List ℕ). is_white r.1) (are_found bytes has.0 has.1 has.2) ∙ has.2.white,
)
