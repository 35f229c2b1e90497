-- Entities keep UTF-8: what is read of them, and what is written.
use Rattle.std.proofs.Common.{◌≡◌, ℕ, zero, suc, ◌+◌, ◌<◌, ◌≤◌, Bool, true, false, cond, ◌&&◌, List, [], ◌∷◌, ◌++◌, codes, length, take, drop, Option, Some, None, All, refl, sym, ap, ◌∙◌, subst, arith, inl, inr}
use Rattle.std.specs.Prelude.{IfSome, slice_index}
use Rattle.std.specs.Bool.{◌==◌, nat_eq, nat_lt}
use Rattle.std.specs.Char.{is_ascii_digit, encode_utf8}
use Rattle.std.specs.List.{list_all, prefix_len, starts_with}
use Rattle.std.specs.Str.{IsUtf8}
use lib.Utf8.{scalar, scalars, encodes, encode}
use Rattle.std.proofs.lemmas.Bool.{cases_lt, cond_both, and_parts, and_from, eqb-true}
use Rattle.std.proofs.lemmas.Bool.Decides.{nat_tests, Decides-eqb}
use Rattle.std.proofs.lemmas.List.{take_at}
use Rattle.std.proofs.lemmas.Grind.{flat_map-append}
use Rattle.std.proofs.lemmas.Slice.Eq.{starts_is}
use Rattle.std.proofs.lemmas.Str.{IsUtf8-nil, IsUtf8-append, IsUtf8-encode, encode_ascii}
use Rattle.hm_facts.proofs.Bytes.{one_ascii}
use Rattle.hm_tree.proofs.CleanText.{not_low, high_bytes}
use Rattle.hm_marks_tokens.specs.Bytes.{less, greater, quote}
use Rattle.hm_marks_tokens.specs.Entities.{ampersand, semicolon, number_sign, decimal_behind, character, are_few, number_at, numbered, entity_at, read_at, read_byte, unescaped_behind, unescaped, escaped_byte, escaped}

-- bytes of ASCII
abbrev is_low : List ℕ → Bool
is_low bytes = list_all (λ b. nat_lt b 128) bytes

-- bytes none of which is
abbrev AreHigh : List ℕ → Type 0
AreHigh bytes = All (λ b. 128 ≤ b) bytes

-- ---- an entity

-- the bytes of a character, and how many of ASCII it is read from
record IsEntity (rest : List ℕ) (r : List ℕ × ℕ) : Type 0 where
  utf8 : IsUtf8 r.0
  low : is_low (take r.1 rest) ≡ true

digit_low : (d : ℕ) → is_ascii_digit d ≡ true → nat_lt d 128 ≡ true
digit_low d e = grind (arith, nat_tests)

-- digits and the `;` behind them
digits_low : (rest : List ℕ) → (slice_index rest (prefix_len is_ascii_digit rest) == semicolon) ≡ true
    → is_low (take (suc (prefix_len is_ascii_digit rest)) rest) ≡ true
digits_low [] e = refl
digits_low (d ∷ rest) e = go (is_ascii_digit d) refl (digits_low rest) e
  where
    go : (t : Bool) → is_ascii_digit d ≡ t
        → ((slice_index rest (prefix_len is_ascii_digit rest) == semicolon) ≡ true → is_low (take (suc (prefix_len is_ascii_digit rest)) rest) ≡ true)
        → (slice_index (d ∷ rest) (cond t (1 + prefix_len is_ascii_digit rest) 0) == semicolon) ≡ true
        → is_low (take (suc (cond t (1 + prefix_len is_ascii_digit rest) 0)) (d ∷ rest)) ≡ true
    go true is more h = let one : 1 + prefix_len is_ascii_digit rest ≡ suc (prefix_len is_ascii_digit rest) = omega arith in
        rw one (and_from (nat_lt d 128) (is_low (take (suc (prefix_len is_ascii_digit rest)) rest)) (digit_low d is) (more (rw one at h)))
    go false is more h = let same = eqb-true d semicolon h in rw same refl

module _ (rest : List ℕ) where
  abbrev count : ℕ
  count = prefix_len is_ascii_digit rest

  abbrev number : ℕ
  number = decimal_behind 0 (take count rest)

  abbrev IsNumber : Option (List ℕ × ℕ) → Type 0
  IsNumber o = IfSome o (IsEntity (number_sign ∷ rest))

  two_more : count + 2 ≡ suc (suc count)
  two_more = omega arith

  of_character : (t : Bool) → scalar number ≡ t → (slice_index rest count == semicolon) ≡ true → IsNumber (cond t (Some (encode_utf8 number, count + 2)) None)
  of_character false s h = tt
  of_character true s h = record { utf8 = IsUtf8-encode number s; low = ap (λ k. is_low (take k (number_sign ∷ rest))) two_more ∙ digits_low rest h }

  of_digits : (t : Bool) → (are_few count && (slice_index rest count == semicolon)) ≡ t → IsNumber (cond t (character number (count + 2)) None)
  of_digits false e = tt
  of_digits true e = of_character (scalar number) refl (and_parts (are_few count) (slice_index rest count == semicolon) e).1

  number_is : IsNumber (number_at rest)
  number_is = of_digits (are_few count && (slice_index rest count == semicolon)) refl

numbered_is : (rest : List ℕ) → IfSome (numbered rest) (IsEntity rest)
numbered_is [] = tt
numbered_is (b ∷ rest) = go (b == number_sign) refl
  where
    go : (t : Bool) → (b == number_sign) ≡ t → IfSome (cond t (number_at rest) None) (IsEntity (b ∷ rest))
    go false e = tt
    go true e = subst (λ (x : ℕ). IfSome (number_at rest) (IsEntity (x ∷ rest))) (sym (eqb-true b number_sign e)) (number_is rest)

-- an entity of a name
named_is : (rest name : List ℕ) (b len : ℕ) → starts_with nat_eq rest name ≡ true → length name ≡ len → is_low name ≡ true → b < 128
    → IsEntity rest (b ∷ [], len)
named_is rest name b len e is low lt =
    let begins : rest ≡ name ++ drop (length name) rest = (starts_is {E = nat_eq} Decides-eqb rest name true (sym e)).0 refl in
    record {
      utf8 = one_ascii b lt;
      low = ap is_low (ap (take len) begins ∙ take_at name (drop (length name) rest) len is) ∙ low;
    }

entity_is : (rest : List ℕ) → IfSome (entity_at rest) (IsEntity rest)
entity_is rest = go (starts_with nat_eq rest (codes "amp;")) refl (starts_with nat_eq rest (codes "lt;")) refl (starts_with nat_eq rest (codes "gt;")) refl
    (starts_with nat_eq rest (codes "quot;")) refl
  where
    go : (a : Bool) → starts_with nat_eq rest (codes "amp;") ≡ a → (l : Bool) → starts_with nat_eq rest (codes "lt;") ≡ l
        → (g : Bool) → starts_with nat_eq rest (codes "gt;") ≡ g → (q : Bool) → starts_with nat_eq rest (codes "quot;") ≡ q
        → IfSome (cond a (Some (ampersand ∷ [], 4)) (cond l (Some (less ∷ [], 3)) (cond g (Some (greater ∷ [], 3)) (cond q (Some (quote ∷ [], 5)) (numbered rest)))))
        (IsEntity rest)
    go true e l el g eg q eq = named_is rest (codes "amp;") ampersand 4 e refl refl (omega arith)
    go false e true el g eg q eq = named_is rest (codes "lt;") less 3 el refl refl (omega arith)
    go false e false el true eg q eq = named_is rest (codes "gt;") greater 3 eg refl refl (omega arith)
    go false e false el false eg true eq = named_is rest (codes "quot;") quote 5 eq refl refl (omega arith)
    go false e false el false eg false eq = numbered_is rest

-- a byte of ASCII, by those behind it
byte_is : (b : ℕ) (rest : List ℕ) → b < 128 → IsEntity rest (read_byte b rest)
byte_is b rest lt = go (b == ampersand)
  where
    one : (o : Option (List ℕ × ℕ)) → IfSome o (IsEntity rest) → IsEntity rest (read_at o)
    one None h = record { utf8 = one_ascii ampersand (omega arith); low = refl }
    one (Some e) h = h

    go : (t : Bool) → IsEntity rest (cond t (read_at (entity_at rest)) (b ∷ [], 0))
    go true = one (entity_at rest) (entity_is rest)
    go false = record { utf8 = one_ascii b lt; low = refl }

-- ---- reading

-- behind some bytes of ASCII that were read before
abbrev IsRead : List ℕ → Type 0
IsRead rest = (n : ℕ) → is_low (take n rest) ≡ true → IsUtf8 (unescaped_behind n rest)

read_ascii : (b : ℕ) (rest : List ℕ) → b < 128 → IsRead rest → IsRead (b ∷ rest)
read_ascii b rest lt is zero low =
    let one = byte_is b rest lt in IsUtf8-append (read_byte b rest).0 (unescaped_behind (read_byte b rest).1 rest) one.utf8 (is (read_byte b rest).1 one.low)
read_ascii b rest lt is (suc n) low = is n (and_parts (nat_lt b 128) (is_low (take n rest)) low).1

plain_high : (bs rest : List ℕ) → AreHigh bs → unescaped_behind 0 (bs ++ rest) ≡ bs ++ unescaped_behind 0 rest
plain_high [] rest all = refl
plain_high (b ∷ bs) rest all =
    let h : 128 ≤ b = all 0 b (omega arith) in
    rw (not_low b 38 h (omega arith)) (ap (λ l. b ∷ l) (plain_high bs rest (λ k d lt. all (suc k) d (omega arith))))

read_high : (bs rest : List ℕ) → IsUtf8 bs → AreHigh bs → IsRead rest → IsRead (bs ++ rest)
read_high bs rest one all is zero low = subst IsUtf8 (sym (plain_high bs rest all)) (IsUtf8-append bs (unescaped_behind 0 rest) one (is 0 refl))
read_high [] rest one all is (suc n) low = is (suc n) low
read_high (b ∷ bs) rest one all is (suc n) low =
    let h : 128 ≤ b = all 0 b (omega arith) in
    let lt = (and_parts (nat_lt b 128) (is_low (take n (bs ++ rest))) low).0 in
    absurd (grind (arith, nat_tests))

-- ---- character by character

module _ (P : List ℕ → Type 0) (none : P []) (low : (b : ℕ) (t : List ℕ) → b < 128 → P t → P (b ∷ t))
    (high : (bs t : List ℕ) → IsUtf8 bs → AreHigh bs → P t → P (bs ++ t)) where
  characters : (cs : List ℕ) → scalars cs ≡ true → P (encodes cs)
  characters [] e = none
  characters (c ∷ cs) e =
      let parts = and_parts (scalar c) (scalars cs) e in
      let more = characters cs parts.1 in
      elim (cases_lt c 128) [
        | inl lt ↦ subst (λ l. P (l ++ encodes cs)) (sym (encode_ascii c lt)) (low c (encodes cs) lt more)
        | inr le ↦ high (encode c) (encodes cs) (IsUtf8-encode c parts.0) (high_bytes c le) more
      ]

  by_characters : (bytes : List ℕ) → IsUtf8 bytes → P bytes
  by_characters bytes u = subst P u.1.1 (characters u.0 u.1.0)

pub unescaped_utf8 : (bytes : List ℕ) → IsUtf8 bytes → IsUtf8 (unescaped bytes)
unescaped_utf8 bytes u = by_characters IsRead (λ n low. none n) read_ascii read_high bytes u 0 refl
  where
    none : (n : ℕ) → IsUtf8 (unescaped_behind n [])
    none zero = IsUtf8-nil
    none (suc n) = IsUtf8-nil

-- ---- writing

ascii_utf8 : (name : List ℕ) → is_low name ≡ true → IsUtf8 name
ascii_utf8 [] low = IsUtf8-nil
ascii_utf8 (b ∷ name) low =
    let parts = and_parts (nat_lt b 128) (is_low name) low in
    let e = parts.0 in
    IsUtf8-append (b ∷ []) name (one_ascii b (grind (arith, nat_tests))) (ascii_utf8 name parts.1)

byte_utf8 : (b : ℕ) → b < 128 → IsUtf8 (escaped_byte b)
byte_utf8 b lt =
    cond_both (b == ampersand) (codes "&amp;") _ IsUtf8 (λ _. ascii_utf8 (codes "&amp;") refl)
    (λ _. cond_both (b == less) (codes "&lt;") _ IsUtf8 (λ _. ascii_utf8 (codes "&lt;") refl)
    (λ _. cond_both (b == greater) (codes "&gt;") _ IsUtf8 (λ _. ascii_utf8 (codes "&gt;") refl)
    (λ _. cond_both (b == quote) (codes "&quot;") (b ∷ []) IsUtf8 (λ _. ascii_utf8 (codes "&quot;") refl) (λ _. one_ascii b lt))))

escaped_high : (bs : List ℕ) → AreHigh bs → escaped bs ≡ bs
escaped_high [] all = refl
escaped_high (b ∷ bs) all =
    let h : 128 ≤ b = all 0 b (omega arith) in
    rw (not_low b 38 h (omega arith), not_low b 60 h (omega arith), not_low b 62 h (omega arith), not_low b 34 h (omega arith))
    (ap (λ l. b ∷ l) (escaped_high bs (λ k d lt. all (suc k) d (omega arith))))

pub escaped_utf8 : (bytes : List ℕ) → IsUtf8 bytes → IsUtf8 (escaped bytes)
escaped_utf8 bytes u =
    by_characters (λ l. IsUtf8 (escaped l)) IsUtf8-nil (λ b t lt rest. IsUtf8-append (escaped_byte b) (escaped t) (byte_utf8 b lt) rest)
    (λ bs t one all rest.
    subst IsUtf8 (sym (flat_map-append escaped_byte bs t))
    (IsUtf8-append (escaped bs) (escaped t) (subst IsUtf8 (sym (escaped_high bs all)) one) rest))
    bytes u
