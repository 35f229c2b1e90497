-- What holds of a definition at a depth wherever it holds of the definitions that it calls, at the depths that are asked for
-- there, holds of all definitions at all depths, since calls fall.
use Rattle.std.proofs.Common.{ℕ, zero, suc, ◌<◌, ◌≤◌, Bool, true, false, sym, subst, arith}
use Rattle.hm_tree.specs.Names.{Name}
use Rattle.hm_terms_laws.specs.Falling.{Falls, IsAsked}

module _ (steps rank : Name → ℕ) (P : Name → ℕ → Type 0)
    (step : (n : Name) (d : ℕ) → ((s c : Bool) (m : ℕ) (k : Name) → IsAsked s c d m → Falls steps rank (steps n) (rank n) s c k → P k m) → P n d) where
  one : (n : Name) (d : ℕ) → ((k : Name) → steps k < steps n → (m : ℕ) → P k m)
      → ((k : Name) → steps k ≤ steps n → (m : ℕ) → m < d → P k m)
      → ((k : Name) → steps k ≤ steps n → rank k < rank n → P k d) → P n d
  one n d fewer lower earlier = step n d go
    where
      go : (s c : Bool) (m : ℕ) (k : Name) → IsAsked s c d m → Falls steps rank (steps n) (rank n) s c k → P k m
      go true c m k a f = fewer k f m
      go false true m k a f = lower k f m a
      go false false m k a f = subst (λ m. P k m) (sym a) (earlier k f.0 f.1)

  by_rank : (a d : ℕ) → ((k : Name) → steps k < a → (m : ℕ) → P k m) → ((k : Name) → steps k ≤ a → (m : ℕ) → m < d → P k m)
      → (c : ℕ) (n : Name) → steps n ≤ a → rank n < c → P n d
  by_rank a d fewer lower zero n s r = absurd (omega arith)
  by_rank a d fewer lower (suc c) n s r =
      one n d (λ k lt m. fewer k (omega arith) m) (λ k le m lt. lower k (omega arith) m lt)
      (λ k le lt. by_rank a d fewer lower c k (omega arith) (omega arith))

  by_depth : (a : ℕ) → ((k : Name) → steps k < a → (m : ℕ) → P k m) → (b : ℕ) (n : Name) → steps n ≤ a → (d : ℕ) → d < b → P n d
  by_depth a fewer zero n s d lt = absurd (omega arith)
  by_depth a fewer (suc b) n s d lt =
      by_rank a d fewer (λ k le m less. by_depth a fewer b k le m (omega arith)) (suc (rank n)) n s (omega arith)

  by_steps : (a : ℕ) (n : Name) → steps n < a → (d : ℕ) → P n d
  by_steps zero n lt d = absurd (omega arith)
  by_steps (suc a) n lt d = by_depth a (λ k less m. by_steps a k less m) (suc d) n (omega arith) d (omega arith)

  pub by_falling : (n : Name) (d : ℕ) → P n d
  by_falling n d = by_steps (suc (steps n)) n (omega arith) d
