-- The exchange of the two spellings of a date is its own inverse.
use Rattle.std.proofs.Common.{◌≡◌, ◌≢◌, ℕ, true, cond, ◌&&◌, [], ◌∷◌, refl, sym, ap, ◌∙◌, arith}
use Rattle.std.specs.Prelude.{◌==◌, All}
use Rattle.std.proofs.lemmas.Bool.{eqb-true, and_parts, cond_both}
use Rattle.std.proofs.lemmas.Bool.Decides.{nat_tests}
use Rattle.std.proofs.lemmas.List.Elements.{All-from_recursion}
use Rattle.hm_tree.specs.declared.class.Class.TheVariants.{Filled}
use Rattle.hm_tree.specs.Names.{Name}
use Rattle.hm_tree.specs.Classes.{IsFilled}
use Rattle.hm_text_lens.specs.Meanings.{IsLawful}
use Rattle.hm_text_kit.specs.CleanLaws.{Kept, clean_from_kept}
use Rattle.hm_text_kit.specs.Dates.{is_date, is_digit, exchanged, swapping_dates}
use Rattle.hm_text_kit.specs.KindLaws.{exchange_lawful}
use Rattle.hm_text_kit.specs.TextLaws.{IsText, Low, low_text}

-- what is exchanged is filled
digit_kept : (b : ℕ) → is_digit b ≡ true → Kept b × (b ≢ 32)
digit_kept b h = (grind (arith, nat_tests), λ e. grind (arith, nat_tests))

digit_low : (b : ℕ) → is_digit b ≡ true → Low b
digit_low b h = grind (arith, nat_tests)

pub record AreDigits (a b c d e f g h : ℕ) : Type 0 where
  pub at_a : is_digit a ≡ true
  pub at_b : is_digit b ≡ true
  pub at_c : is_digit c ≡ true
  pub at_d : is_digit d ≡ true
  pub at_e : is_digit e ≡ true
  pub at_f : is_digit f ≡ true
  pub at_g : is_digit g ≡ true
  pub at_h : is_digit h ≡ true

pub digits : (a b c d e f g h : ℕ) → is_date a b c d e f g h ≡ true → AreDigits a b c d e f g h
unfolding is_date
digits a b c d e f g h is =
    let p0 = (and_parts _ _ is).0 in
    let p1 = and_parts _ _ p0 in
    let p2 = and_parts _ _ p1.1 in
    let p3 = and_parts _ _ p2.1 in
    let p4 = and_parts _ _ p3.1 in
    let p5 = and_parts _ _ p4.1 in
    let p6 = and_parts _ _ p5.1 in
    let p7 = and_parts _ _ p6.1 in
    record { at_a = p1.0; at_b = p2.0; at_c = p3.0; at_d = p4.0; at_e = p5.0; at_f = p6.0; at_g = p7.0; at_h = p7.1 }

-- what holds of digits and of a dash holds of all bytes of a date
module _ (P : ℕ → Type 0) (at_digit : (b : ℕ) → is_digit b ≡ true → P b) where
  all_compact : (a b c d e f g h : ℕ) → is_date a b c d e f g h ≡ true → All P (a ∷ b ∷ c ∷ d ∷ e ∷ f ∷ g ∷ h ∷ [])
  all_compact a b c d e f g h is =
      let q = digits a b c d e f g h is in
      All-from_recursion P (a ∷ b ∷ c ∷ d ∷ e ∷ f ∷ g ∷ h ∷ []) (at_digit a q.at_a, (at_digit b q.at_b, (at_digit c q.at_c, (at_digit d q.at_d, (at_digit e q.at_e, (at_digit f q.at_f, (at_digit g q.at_g, (at_digit h q.at_h, tt))))))))

  all_dashed : P 45 → (a b c d e f g h : ℕ) → is_date a b c d e f g h ≡ true → All P (a ∷ b ∷ c ∷ d ∷ 45 ∷ e ∷ f ∷ 45 ∷ g ∷ h ∷ [])
  all_dashed dash a b c d e f g h is =
      let q = digits a b c d e f g h is in
      All-from_recursion P (a ∷ b ∷ c ∷ d ∷ 45 ∷ e ∷ f ∷ 45 ∷ g ∷ h ∷ []) (at_digit a q.at_a, (at_digit b q.at_b, (at_digit c q.at_c, (at_digit d q.at_d, (dash, (at_digit e q.at_e, (at_digit f q.at_f, (dash, (at_digit g q.at_g, (at_digit h q.at_h, tt))))))))))

filled_from : (b : ℕ) (t : Name) → is_digit b ≡ true → All Kept (b ∷ t) → IsFilled (b ∷ t)
filled_from b t h all = record {
  clean = clean_from_kept (b ∷ t) all;
  filled = (0, b, omega arith, refl, (digit_kept b h).1);
}

filled_compact : (a b c d e f g h : ℕ) → is_date a b c d e f g h ≡ true → IsFilled (a ∷ b ∷ c ∷ d ∷ e ∷ f ∷ g ∷ h ∷ [])
filled_compact a b c d e f g h is =
    filled_from a (b ∷ c ∷ d ∷ e ∷ f ∷ g ∷ h ∷ []) (digits a b c d e f g h is).at_a (all_compact Kept (λ b h. (digit_kept b h).0) a b c d e f g h is)

filled_dashed : (a b c d e f g h : ℕ) → is_date a b c d e f g h ≡ true → IsFilled (a ∷ b ∷ c ∷ d ∷ 45 ∷ e ∷ f ∷ 45 ∷ g ∷ h ∷ [])
filled_dashed a b c d e f g h is =
    filled_from a (b ∷ c ∷ d ∷ 45 ∷ e ∷ f ∷ 45 ∷ g ∷ h ∷ []) (digits a b c d e f g h is).at_a (all_dashed Kept (λ b h. (digit_kept b h).0) refl a b c d e f g h is)

pub exchanged_filled : (t : Name) → IsFilled t → IsFilled (exchanged t)
exchanged_filled (a ∷ b ∷ c ∷ d ∷ e ∷ f ∷ g ∷ h ∷ []) is =
    cond_both (is_date a b c d e f g h) (a ∷ b ∷ c ∷ d ∷ 45 ∷ e ∷ f ∷ 45 ∷ g ∷ h ∷ []) (a ∷ b ∷ c ∷ d ∷ e ∷ f ∷ g ∷ h ∷ []) IsFilled (filled_dashed a b c d e f g h) (λ _. is)
exchanged_filled (a ∷ b ∷ c ∷ d ∷ p ∷ e ∷ f ∷ q ∷ g ∷ h ∷ []) is =
    cond_both ((p == 45) && ((q == 45) && is_date a b c d e f g h)) (a ∷ b ∷ c ∷ d ∷ e ∷ f ∷ g ∷ h ∷ []) (a ∷ b ∷ c ∷ d ∷ p ∷ e ∷ f ∷ q ∷ g ∷ h ∷ []) IsFilled
    (λ yes. filled_compact a b c d e f g h (and_parts (q == 45) (is_date a b c d e f g h) (and_parts (p == 45) _ yes).1).1) (λ _. is)
exchanged_filled t is = is

-- and is UTF-8 where the text is
exchanged_text : (t : Name) → IsText t → IsText (exchanged t)
exchanged_text (a ∷ b ∷ c ∷ d ∷ e ∷ f ∷ g ∷ h ∷ []) text =
    cond_both (is_date a b c d e f g h) (a ∷ b ∷ c ∷ d ∷ 45 ∷ e ∷ f ∷ 45 ∷ g ∷ h ∷ []) (a ∷ b ∷ c ∷ d ∷ e ∷ f ∷ g ∷ h ∷ []) IsText
    (λ yes. low_text _ (all_dashed Low digit_low (omega arith) a b c d e f g h yes)) (λ _. text)
exchanged_text (a ∷ b ∷ c ∷ d ∷ p ∷ e ∷ f ∷ q ∷ g ∷ h ∷ []) text =
    cond_both ((p == 45) && ((q == 45) && is_date a b c d e f g h)) (a ∷ b ∷ c ∷ d ∷ e ∷ f ∷ g ∷ h ∷ []) (a ∷ b ∷ c ∷ d ∷ p ∷ e ∷ f ∷ q ∷ g ∷ h ∷ []) IsText
    (λ yes. low_text _ (all_compact Low digit_low a b c d e f g h (and_parts (q == 45) (is_date a b c d e f g h) (and_parts (p == 45) _ yes).1).1)) (λ _. text)
exchanged_text t text = text

pub exchanged_twice : (t : Name) → exchanged (exchanged t) ≡ t
exchanged_twice (a ∷ b ∷ c ∷ d ∷ e ∷ f ∷ g ∷ h ∷ []) =
    cond_both (is_date a b c d e f g h) (a ∷ b ∷ c ∷ d ∷ 45 ∷ e ∷ f ∷ 45 ∷ g ∷ h ∷ []) (a ∷ b ∷ c ∷ d ∷ e ∷ f ∷ g ∷ h ∷ []) (λ t. exchanged t ≡ a ∷ b ∷ c ∷ d ∷ e ∷ f ∷ g ∷ h ∷ [])
    (λ yes. ap (λ s. cond s (a ∷ b ∷ c ∷ d ∷ e ∷ f ∷ g ∷ h ∷ []) (a ∷ b ∷ c ∷ d ∷ 45 ∷ e ∷ f ∷ 45 ∷ g ∷ h ∷ [])) yes)
    (λ no. ap (λ s. cond s (a ∷ b ∷ c ∷ d ∷ 45 ∷ e ∷ f ∷ 45 ∷ g ∷ h ∷ []) (a ∷ b ∷ c ∷ d ∷ e ∷ f ∷ g ∷ h ∷ [])) no)
exchanged_twice (a ∷ b ∷ c ∷ d ∷ p ∷ e ∷ f ∷ q ∷ g ∷ h ∷ []) =
    cond_both ((p == 45) && ((q == 45) && is_date a b c d e f g h)) (a ∷ b ∷ c ∷ d ∷ e ∷ f ∷ g ∷ h ∷ []) (a ∷ b ∷ c ∷ d ∷ p ∷ e ∷ f ∷ q ∷ g ∷ h ∷ []) (λ t. exchanged t ≡ a ∷ b ∷ c ∷ d ∷ p ∷ e ∷ f ∷ q ∷ g ∷ h ∷ [])
    (λ yes.
    let one = and_parts (p == 45) ((q == 45) && is_date a b c d e f g h) yes in
    let other = and_parts (q == 45) (is_date a b c d e f g h) one.1 in
    ap (λ s. cond s (a ∷ b ∷ c ∷ d ∷ 45 ∷ e ∷ f ∷ 45 ∷ g ∷ h ∷ []) (a ∷ b ∷ c ∷ d ∷ e ∷ f ∷ g ∷ h ∷ [])) other.1
    ∙ (λ i. a ∷ b ∷ c ∷ d ∷ sym (eqb-true p 45 one.0) i ∷ e ∷ f ∷ sym (eqb-true q 45 other.0) i ∷ g ∷ h ∷ []))
    (λ no. ap (λ s. cond s (a ∷ b ∷ c ∷ d ∷ e ∷ f ∷ g ∷ h ∷ []) (a ∷ b ∷ c ∷ d ∷ p ∷ e ∷ f ∷ q ∷ g ∷ h ∷ [])) no)
exchanged_twice t = refl

pub swapping_dates_lawful : (name : Name) → IsLawful (swapping_dates name)
swapping_dates_lawful name = exchange_lawful name Filled exchanged
    (λ v h. record { text = exchanged_text v h.text; in_class = exchanged_filled v h.in_class }) (λ v h. exchanged_twice v)
