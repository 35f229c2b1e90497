-- Double quotes before a place, and the first `:` outside of them.
use Rattle.std.proofs.Common.{◌≡◌, ℕ, ◌+◌, ◌<◌, Bool, true, false, not, cond, ◌&&◌, List, [], ◌∷◌, ◌++◌, length, get_or, take, refl, sym, ap, ◌∙◌, subst, arith, inl, inr}
use Rattle.std.specs.Bool.{◌==◌}
use Rattle.std.proofs.lemmas.Bool.{cases_lt, eq-eqb, not-false}
use Rattle.std.proofs.lemmas.List.{take_more}
use Rattle.hm_lines.specs.Content.{colon, opens_quotes}

both : (a b o : Bool) → cond a (not (cond b (not o) o)) (cond b (not o) o) ≡ cond b (not (cond a (not o) o)) (cond a (not o) o)
both true true o = refl
both true false o = refl
both false true o = refl
both false false o = refl

opens_push : (xs : List ℕ) (b : ℕ) → opens_quotes (xs ++ b ∷ []) ≡ cond (b == 34) (not (opens_quotes xs)) (opens_quotes xs)
opens_push [] b = refl
opens_push (a ∷ xs) b = ap (λ o. cond (a == 34) (not o) o) (opens_push xs b) ∙ both (a == 34) (b == 34) (opens_quotes xs)

module _ (bytes : List ℕ) (i : ℕ) (lt : i < length bytes) (q : Bool) (is : q ≡ opens_quotes (take i bytes)) where
  pub quotes_more : cond (get_or bytes i 0 == 34) (not q) q ≡ opens_quotes (take (i + 1) bytes)
  quotes_more =
      (λ k. cond (get_or bytes i 0 == 34) (not (is k)) (is k))
      ∙ sym (opens_push (take i bytes) (get_or bytes i 0)) ∙ ap opens_quotes (sym (take_more bytes i 0 lt))

  -- a `:` that isn't the end is in quotes
  inside : ((get_or bytes i 0 == colon) && not q) ≡ false → get_or bytes i 0 ≡ colon → q ≡ true
  inside goes_on e = not-false q (ap (λ c. c && not q) (sym (eq-eqb (get_or bytes i 0) colon e)) ∙ goes_on)

  pub colons_more : ((k : ℕ) → k < i → get_or bytes k 0 ≡ colon → opens_quotes (take k bytes) ≡ true)
      → ((get_or bytes i 0 == colon) && not q) ≡ false
      → (k : ℕ) → k < i + 1 → get_or bytes k 0 ≡ colon → opens_quotes (take k bytes) ≡ true
  colons_more before goes_on k low e = elim (cases_lt k i) [
    | inl below ↦ before k below e
    | inr above ↦
        let same : k ≡ i = omega arith in
        subst (λ n. opens_quotes (take n bytes) ≡ true) (sym same) (sym is ∙ inside goes_on (subst (λ n. get_or bytes n 0 ≡ colon) same e))
  ]
