-- A word is a count in one way alone.
use Rattle.std.proofs.Common.{◌≡◌, ◌≢◌, ℕ, ◌<◌, ◌≤◌, ◌^◌, true, false, List, [], ◌∷◌, ◌++◌, length, take, drop, Option, Result, Ok, Err, sym, ap, ◌∙◌, subst, arith, rules}
use Rattle.std.specs.Prelude.{decimal, IsUtf8}
use Rattle.std.specs.List.{prefix_len, list_all}
use Rattle.std.specs.Str.Parse.{ParsesUnsigned, digits_value}
use Rattle.std.proofs.lemmas.Str.{IsUtf8-from_ascii}
use Rattle.std.proofs.lemmas.Str.Parse.{IsNumeralModel, numerals_by_value}
use Rattle.std.proofs.lemmas.Fmt.{IsAscii-decimal, digits_decimal, decimal_nonempty, parse-decimal}
use Rattle.std.proofs.lemmas.Grind.{common_steps}
use Rattle.std.proofs.lemmas.List.Sums.{prefix_len-le-length}
use lib.Pointwise.{pointwise, bytes_decides}
use lib.Dec.{eqb}
use mathlib.Core.Bool.{true≢false}
use Rattle.hm_schema_lines.specs.declared.count.Count.{Count}
use Rattle.hm_schema_lines.specs.Counts.{is_digit, IsDecimal, IsMost, IsCount}
use Rattle.hm_schema_lines.proofs.Words.{run_is}

-- ---- numbers

pub no_text : (bytes : List ℕ) → ¬ (IsUtf8 bytes) → (n : ℕ) → ¬ (IsDecimal bytes n)
no_text bytes h n d = h (subst IsUtf8 (sym d.text) (IsUtf8-from_ascii _ (IsAscii-decimal n d.fits)))

pub no_number : (text bytes : List ℕ) → ParsesUnsigned {E = Unit {0}} 64 10 text (Err tt) → text ≡ bytes → (n : ℕ) → ¬ (IsDecimal bytes n)
no_number text bytes h is n d =
    let fault : Result ℕ (Unit {0}) = Err tt in
    let r : fault ≡ Ok n = parse-decimal {E = Unit {0}} 64 n text (Err tt) d.fits d.fits (is ∙ d.text) h in
    let f : ⊥ = cc in f

pub no_spelling : (text bytes spelled : List ℕ) (m : ℕ) → ParsesUnsigned {E = Unit {0}} 64 10 text (Ok m) → text ≡ bytes → spelled ≡ decimal m
    → pointwise eqb spelled text ≡ false → (n : ℕ) → ¬ (IsDecimal bytes n)
no_spelling text bytes spelled m h is s fails n d =
    let read : Result ℕ (Unit {0}) = Ok m in
    let r : read ≡ Ok n = parse-decimal {E = Unit {0}} 64 n text (Ok m) d.fits d.fits (is ∙ d.text) h in
    let same : m ≡ n = cc in
    true≢false (sym ((bytes_decides spelled text).1 (s ∙ ap decimal same ∙ sym d.text ∙ sym is)) ∙ fails)

pub some_digit : (n : ℕ) → n < 2 ^ 64 → decimal n ≢ []
some_digit n fits e =
    let some = decimal_nonempty n fits in
    let none : length (decimal n) ≡ 0 = ap length e in
    omega arith

-- ---- counts

pub own : IsNumeralModel (λ ds. list_all is_digit ds ≡ true) (digits_value 10)
own = numerals_by_value _ (search rules)

take_front : (a b : List ℕ) (n : ℕ) → n ≡ length a → take n (a ++ b) ≡ a
take_front a b n e = grind (arith, common_steps)

drop_front : (a b : List ℕ) (n : ℕ) → n ≡ length a → drop n (a ++ b) ≡ b
drop_front a b n e = grind (arith, common_steps)

module _ (word : List ℕ) (n : ℕ) (is : n ≡ prefix_len is_digit word) where
  digits_are : (c : Count) → (k : IsCount word c) → n ≡ length k.front
  digits_are c k =
      let all : list_all is_digit k.front ≡ true = subst (λ (z : List ℕ). list_all is_digit z ≡ true) (sym k.least.text)
      (digits_decimal own c.least k.least.fits) in
      is ∙ ap (prefix_len is_digit) k.is ∙ run_is is_digit k.front (46 ∷ 46 ∷ k.rest) all
      (λ d more e. let byte : 46 ≡ d = cc in ap is_digit (sym byte))

  pub within : n ≤ length word
  within = let w = prefix_len-le-length is_digit word in omega arith

  pub front_is : (c : Count) → (k : IsCount word c) → take n word ≡ k.front
  front_is c k = ap (take n) k.is ∙ take_front k.front (46 ∷ 46 ∷ k.rest) n (digits_are c k)

  pub behind_is : (c : Count) → (k : IsCount word c) → drop n word ≡ 46 ∷ 46 ∷ k.rest
  behind_is c k = ap (drop n) k.is ∙ drop_front k.front (46 ∷ 46 ∷ k.rest) n (digits_are c k)

  pub no_dots : (behind : List ℕ) → behind ≡ drop n word → pointwise eqb (take 2 behind) (46 ∷ 46 ∷ []) ≡ false → (c : Count) → ¬ (IsCount word c)
  no_dots behind b fails c k = true≢false (ap (λ (z : List ℕ). pointwise eqb (take 2 z) (46 ∷ 46 ∷ [])) (sym (behind_is c k) ∙ sym b) ∙ fails)

  pub no_least : (front : List ℕ) → front ≡ take n word → ((m : ℕ) → ¬ (IsDecimal front m)) → (c : Count) → ¬ (IsCount word c)
  no_least front f none c k = none c.least (subst (λ (z : List ℕ). IsDecimal z c.least) (sym (front_is c k) ∙ sym f) k.least)

  pub no_most : (behind rest : List ℕ) → behind ≡ drop n word → rest ≡ drop 2 behind → ((m : Option ℕ) → ¬ (IsMost rest m)) → (c : Count)
      → ¬ (IsCount word c)
  no_most behind rest b r none c k =
      none c.most (subst (λ (z : List ℕ). IsMost z c.most) (ap (drop 2) (sym (behind_is c k) ∙ sym b) ∙ sym r) k.most)
