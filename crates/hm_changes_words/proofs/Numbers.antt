-- The number that a word says, by what parsing it gives.
use Rattle.std.proofs.Common.{◌≡◌, ◌∙◌, ◌<◌, ◌^◌, ◌&&◌, ◌==◌, ◌≢◌, ℕ, Bool, true, false, refl, sym, ap, subst, arith, List, [], ◌∷◌, length, get_or, Option, Some, None, if◌then◌else◌, true≢false, nat_lt, lt-ltb, ltb-true}
use Rattle.std.specs.List.{list_all}
use Rattle.std.specs.Char.{digit_value}
use Rattle.std.specs.Str.Parse.{AllDigits, IsNumeral, digits_value, without_leading_plus}
use Rattle.std.proofs.lemmas.Bool.Decides.{nat_tests}
use Rattle.hm_changes_words.specs.Asked.{is_number, number_of}

abbrev are_digits : List ℕ → Bool
are_digits ds = list_all (λ c. nat_lt (digit_value c) 10) ds

digits_pass : (ds : List ℕ) → AllDigits 10 ds → are_digits ds ≡ true
digits_pass [] h = refl
digits_pass (d ∷ ds) h = rw (lt-ltb (digit_value d) 10 h.0) (digits_pass ds h.1)

both : (a b : Bool) → (a && b) ≡ true → (a ≡ true) × (b ≡ true)
both true b e = (refl, e)
both false b e = absurd (true≢false (sym e))

digits_from : (ds : List ℕ) → are_digits ds ≡ true → AllDigits 10 ds
digits_from [] e = tt
digits_from (d ∷ ds) e =
    let parts = both _ _ e in
    (ltb-true _ _ parts.0, digits_from ds parts.1)

-- what parsing asks of a text without a sign, as a test
abbrev Fits : List ℕ → Type 0
Fits ds = IsNumeral 10 ds × (digits_value 10 ds < 2 ^ 64)

abbrev fits : List ℕ → Bool
fits ds = is_number ds && nat_lt (digits_value 10 ds) (2 ^ 64)

abbrev number_if : List ℕ → Bool → Option ℕ
number_if ds fine = if fine then Some (digits_value 10 ds) else None

fits_so : (ds : List ℕ) → Fits ds → fits ds ≡ true
fits_so ds h = rw (lt-ltb 0 (length ds) h.0.0, digits_pass ds h.0.1) (lt-ltb (digits_value 10 ds) (2 ^ 64) h.1)

fits_only : (ds : List ℕ) → fits ds ≡ true → Fits ds
fits_only ds e =
    let parts = both _ _ e in
    let number = both _ _ parts.0 in
    ((ltb-true _ _ number.0, digits_from ds number.1), ltb-true _ _ parts.1)

-- parsing drops no `+` where there is none
pub plain_if_empty : (word bytes : List ℕ) → bytes ≡ word → length bytes < 1 → without_leading_plus word ≡ word
plain_if_empty word [] is empty = subst (λ (ds : List ℕ). without_leading_plus ds ≡ ds) is refl
plain_if_empty word (b ∷ bs) is empty = absurd (omega arith)

pub plain_if_other : (word bytes : List ℕ) → bytes ≡ word → get_or bytes 0 0 ≢ 43 → without_leading_plus word ≡ word
plain_if_other word bytes is other =
    let test : (get_or bytes 0 0 == 43) ≡ false = grind (arith, nat_tests) in
    subst (λ (ds : List ℕ). without_leading_plus ds ≡ ds) is (rw test refl)

module _ (word : List ℕ) (plain : without_leading_plus word ≡ word) where
  pub number_read : (n : ℕ) → Fits (without_leading_plus word) → n ≡ digits_value 10 (without_leading_plus word) → Some n ≡ number_of word
  number_read n h is = ap Some (is ∙ ap (digits_value 10) plain) ∙ sym (ap (number_if word) (fits_so word (subst Fits plain h)))

  none_if : (fine : Bool) → fits word ≡ fine → (fine ≡ true → ⊥) → None ≡ number_of word
  none_if true e h = absurd (h refl)
  none_if false e h = sym (ap (number_if word) e)

  pub no_number : (Fits (without_leading_plus word) → ⊥) → None ≡ number_of word
  no_number h = none_if (fits word) refl (λ e. h (subst Fits (sym plain) (fits_only word e)))
