-- One line at the most is told of a file.
use Rattle.std.proofs.Common.{◌≡◌, ℕ, ◌+◌, ◌<◌, refl, ap, arith}
use Rattle.hm_schema_lines.specs.FirstBad.{IsFirstBad, IsTold, at, behind_all}

module _ (Bad : ℕ → Type 0) (Lacks : Type 0) (count : ℕ) where
  not_before : (i j : ℕ) → IsFirstBad Bad i → IsFirstBad Bad j → ¬ (i < j)
  not_before i j h k below = k.first i below h.bad

  pub told_once : (a b : ℕ) → IsTold Bad Lacks count a → IsTold Bad Lacks count b → a ≡ b
  told_once _ _ (at {i} h) (at {i = j} k) = ap (λ n. n + 1) (omega (arith, not_before i j h k, not_before j i k h))
  told_once _ _ (at {i} h) (behind_all none l) = absurd (none i h.bad)
  told_once _ _ (behind_all none l) (at {i} h) = absurd (none i h.bad)
  told_once _ _ (behind_all none l) (behind_all none2 m) = refl
