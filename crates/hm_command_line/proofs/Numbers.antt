-- The number that a word says, by what parsing it gives.
use Rattle.std.proofs.Common.{◌≡◌, ◌∙◌, ◌+◌, ◌≤◌, ◌<◌, ◌^◌, ◌==◌, ◌&&◌, ℕ, Bool, cond, true, false, refl, sym, ap, subst, arith, List, [], ◌∷◌, length, get_or, Option, Some, None, true≢false, nat_lt, lt-ltb, ltb-true, leb-true}
use Rattle.std.specs.Prelude.{nat_le}
use Rattle.std.specs.List.{list_all}
use Rattle.std.specs.Char.{digit_value}
use Rattle.std.specs.Str.Parse.{AllDigits, IsNumeral, digits_value, without_leading_plus}
use Rattle.std.proofs.lemmas.Bool.Decides.{nat_tests}
use Rattle.std.proofs.lemmas.Str.{digit_value_digit}
use Rattle.hm_command_line.specs.Requests.{number_of}

abbrev are_digits : List ℕ → Bool
are_digits ds = list_all (λ c. nat_lt (digit_value c) 10) ds

digits_pass : (ds : List ℕ) → AllDigits 10 ds → are_digits ds ≡ true
digits_pass [] h = refl
digits_pass (d ∷ ds) h = rw (lt-ltb (digit_value d) 10 h.0) (digits_pass ds h.1)

both : (a b : Bool) → (a && b) ≡ true → (a ≡ true) × (b ≡ true)
both true b e = (refl, e)
both false b e = absurd (true≢false (sym e))

digits_from : (ds : List ℕ) → are_digits ds ≡ true → AllDigits 10 ds
digits_from [] e = tt
digits_from (d ∷ ds) e =
    let parts = both _ _ e in
    (ltb-true _ _ parts.0, digits_from ds parts.1)

-- a text begins with a digit that isn't 0
pub record Begins (text : List ℕ) : Type 0 where
  pub nonempty : 0 < length text
  pub least : 49 ≤ get_or text 0 0
  pub most : get_or text 0 0 ≤ 57

pub begins_so : (text bytes : List ℕ) → bytes ≡ text → 0 < length bytes → 49 ≤ get_or bytes 0 0 → get_or bytes 0 0 ≤ 57 → Begins text
begins_so text bytes same some least most = subst Begins same (record { nonempty = some; least = least; most = most })

module _ (w : List ℕ) (begins : Begins w) where
  no_plus : without_leading_plus w ≡ w
  no_plus = let least = begins.least in
      let other : (get_or w 0 0 == 43) ≡ false = grind (arith, nat_tests) in rw other refl

  positive : nat_lt 0 (digit_value (get_or w 0 0)) ≡ true
  positive =
      let least = begins.least in
      let value : digit_value (get_or w 0 0) + 48 ≡ get_or w 0 0 = digit_value_digit (get_or w 0 0) (omega arith, begins.most) in
      lt-ltb 0 (digit_value (get_or w 0 0)) (omega arith)

  abbrev as_number : Bool → Option ℕ
  as_number fine = cond fine (Some (digits_value 10 w)) None

  shown : number_of w ≡ as_number (are_digits w && nat_le (digits_value 10 w) 50000)
  shown = let some : nat_lt 0 (length w) ≡ true = lt-ltb 0 (length w) begins.nonempty in
      (λ i. as_number ((positive i && some i && are_digits w) && nat_le (digits_value 10 w) 50000))

  pub number_read : (n : ℕ) → IsNumeral 10 (without_leading_plus w) → n ≡ digits_value 10 (without_leading_plus w) → n ≤ 50000 → Some n ≡ number_of w
  number_read n numeral is le =
      let digits : are_digits w ≡ true = digits_pass w (subst (AllDigits 10) no_plus numeral.1) in
      let same : n ≡ digits_value 10 w = is ∙ ap (digits_value 10) no_plus in
      let small : nat_le (digits_value 10 w) 50000 ≡ true = grind (arith, nat_tests) in
      let fine : number_of w ≡ Some (digits_value 10 w) = shown ∙ (λ i. as_number (digits i && small i)) in
      ap Some same ∙ sym fine

  no_number : (fine : Bool) → (are_digits w && nat_le (digits_value 10 w) 50000) ≡ fine → (fine ≡ true → ⊥) → None ≡ number_of w
  no_number true e h = absurd (h refl)
  no_number false e h = sym (shown ∙ ap as_number e)

  pub number_bad : (IsNumeral 10 (without_leading_plus w) × (digits_value 10 (without_leading_plus w) < 2 ^ 64) → ⊥) → None ≡ number_of w
  number_bad h = no_number (are_digits w && nat_le (digits_value 10 w) 50000) refl (λ e.
      let parts = both _ _ e in
      let small : digits_value 10 w ≤ 50000 = leb-true _ _ parts.1 in
      let few : digits_value 10 w < 2 ^ 64 = omega arith in
      h (subst (λ (ds : List ℕ). IsNumeral 10 ds × (digits_value 10 ds < 2 ^ 64)) (sym no_plus) ((begins.nonempty, digits_from w parts.0), few)))
