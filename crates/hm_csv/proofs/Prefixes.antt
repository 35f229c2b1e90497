-- When the rows that were made so far are those from before.
use Rattle.std.proofs.Common.{◌≡◌, ℕ, zero, suc, ◌+◌, Bool, true, false, ◌&&◌, List, [], ◌∷◌, ◌++◌, length, slice_get, take, drop, Some, refl, sym, ap, ◌∙◌, arith}
use Rattle.std.specs.Prelude.{IsTrue, ◌↔◌}
use Rattle.std.specs.Bool.{◌==◌}
use Rattle.std.proofs.lemmas.Bool.{eqb-true}
use Rattle.std.proofs.lemmas.Bool.Decides.{nat_tests}

module _ {X : Type 0} where
  -- one row more is the next one from before
  both_more : (made others : List X) (row : X) → (made ++ row ∷ [] ≡ take (suc (length made)) others) ↔ ((made ≡ take (length made) others) × (slice_get others (length made) ≡ Some row))
  both_more [] [] row = ((λ e. let bad : ⊥ = cc in absurd bad), (λ h. let e = h.1 in let bad : ⊥ = cc in absurd bad))
  both_more [] (y ∷ ys) row = ((λ e. let same : row ≡ y = cc in (refl, ap Some (sym same))), (λ h. let e = h.1 in let same : y ≡ row = cc in ap (λ z. z ∷ []) (sym same)))
  both_more (x ∷ made) [] row = ((λ e. let bad : ⊥ = cc in absurd bad), (λ h. let e = h.0 in let bad : ⊥ = cc in absurd bad))
  both_more (x ∷ made) (y ∷ ys) row =
      let rest = both_more made ys row in (
        (λ e.
            let first : x ≡ y = cc in
            let others : made ++ row ∷ [] ≡ take (suc (length made)) ys = cc in
            let h = rest.0 others in
            (λ i. first i ∷ h.0 i, h.1)),
        (λ h.
            let e = h.0 in
            let first : x ≡ y = cc in
            let others : made ≡ take (length made) ys = cc in
            (λ i. first i ∷ rest.1 (others, h.1) i)),
      )

  -- all rows are those from before where they are so far, and there are as many
  all_same : (made others : List X) → (made ≡ others) ↔ ((made ≡ take (length made) others) × (length made ≡ length others))
  all_same [] [] = ((λ e. (refl, refl)), (λ h. refl))
  all_same [] (y ∷ ys) = ((λ e. let bad : ⊥ = cc in absurd bad), (λ h. let e = h.1 in absurd (omega (arith, e))))
  all_same (x ∷ made) [] = ((λ e. let bad : ⊥ = cc in absurd bad), (λ h. let e = h.1 in absurd (omega (arith, e))))
  all_same (x ∷ made) (y ∷ ys) =
      let rest = all_same made ys in (
        (λ e.
            let first : x ≡ y = cc in
            let others : made ≡ ys = cc in
            let h = rest.0 others in
            (λ i. first i ∷ h.0 i, ap suc h.1)),
        (λ h.
            let e = h.0 in
            let first : x ≡ y = cc in
            let others : made ≡ take (length made) ys = cc in
            let n = h.1 in
            (λ i. first i ∷ rest.1 (others, omega (arith, n)) i)),
      )

  behind : (rows : List X) (at : ℕ) → slice_get (drop 1 rows) at ≡ slice_get rows (at + 1)
  behind [] zero = refl
  behind [] (suc at) = refl
  behind (x ∷ rows) at = let e : suc at ≡ at + 1 = omega arith in ap (slice_get (x ∷ rows)) e

  -- a test goes on
  pub same_on : (same next : Bool) (made rows : List X) (row : X) (at : ℕ) → length made ≡ at → IsTrue same ↔ (made ≡ take at (drop 1 rows))
      → (same ≡ true → IsTrue next ↔ (slice_get rows (at + 1) ≡ Some row)) → IsTrue (same && next) ↔ (made ++ row ∷ [] ≡ take (at + 1) (drop 1 rows))
  same_on same next made rows row at n so_far tests = go same next so_far tests
    where
      e : at + 1 ≡ suc (length made)
      e = omega (arith, n)

      more : (made ++ row ∷ [] ≡ take (at + 1) (drop 1 rows)) ↔ ((made ≡ take at (drop 1 rows)) × (slice_get rows (at + 1) ≡ Some row))
      more =
          let both = both_more made (drop 1 rows) row in (
            (λ h. let r = both.0 (h ∙ ap (λ k. take k (drop 1 rows)) e) in
                (r.0 ∙ ap (λ k. take k (drop 1 rows)) n, sym (behind rows at) ∙ ap (slice_get (drop 1 rows)) (sym n) ∙ r.1)),
            (λ h. both.1 (h.0 ∙ ap (λ k. take k (drop 1 rows)) (sym n), ap (slice_get (drop 1 rows)) n ∙ behind rows at ∙ h.1) ∙ ap (λ k. take k (drop 1 rows)) (sym e)),
          )

      go : (same next : Bool) → IsTrue same ↔ (made ≡ take at (drop 1 rows)) → (same ≡ true → IsTrue next ↔ (slice_get rows (at + 1) ≡ Some row))
          → IsTrue (same && next) ↔ (made ++ row ∷ [] ≡ take (at + 1) (drop 1 rows))
      go false next so tests = ((λ t. let bad : ⊥ = cc in absurd bad), (λ h. so.1 (more.0 h).0))
      go true next so tests = ((λ t. more.1 (so.0 refl, (tests refl).0 t)), (λ h. (tests refl).1 (more.0 h).1))

  -- and ends
  pub same_end : (same many : Bool) (made rows : List X) (at : ℕ) → length made ≡ at → length (drop 1 rows) + 1 ≡ length rows → IsTrue same ↔ (made ≡ take at (drop 1 rows))
      → (same ≡ true → IsTrue many ↔ (at + 1 ≡ length rows)) → IsTrue (same && many) ↔ (made ≡ drop 1 rows)
  same_end same many made rows at n long so_far tests = go same many so_far tests
    where
      all : (made ≡ drop 1 rows) ↔ ((made ≡ take at (drop 1 rows)) × (at + 1 ≡ length rows))
      all =
          let h = all_same made (drop 1 rows) in (
            (λ e. let r = h.0 e in let m = r.1 in (r.0 ∙ ap (λ k. take k (drop 1 rows)) n, omega (arith, n, m, long))),
            (λ r. let m = r.1 in h.1 (r.0 ∙ ap (λ k. take k (drop 1 rows)) (sym n), omega (arith, n, m, long))),
          )

      go : (same many : Bool) → IsTrue same ↔ (made ≡ take at (drop 1 rows)) → (same ≡ true → IsTrue many ↔ (at + 1 ≡ length rows)) → IsTrue (same && many) ↔ (made ≡ drop 1 rows)
      go false many so tests = ((λ t. let bad : ⊥ = cc in absurd bad), (λ h. so.1 (all.0 h).0))
      go true many so tests = ((λ t. all.1 (so.0 refl, (tests refl).0 t)), (λ h. (tests refl).1 (all.0 h).1))

-- a test of two numbers
pub numbers : (a b c : ℕ) → b ≡ c → IsTrue (a == b) ↔ (a ≡ c)
numbers a b c is = ((λ t. eqb-true a b t ∙ is), (λ e. let same : a ≡ b = e ∙ sym is in grind (arith, same, nat_tests)))
