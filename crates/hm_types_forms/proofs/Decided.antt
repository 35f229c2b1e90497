-- What is decided, as far as only a contradiction is asked for.
use Rattle.std.proofs.Common.{◌↔◌, ℕ, zero, suc, ◌≤◌, Bool, true, false, IsTrue, refl, arith}
use mathlib.Core.Bool.{false≢true}

-- a truth value tells whether a fact holds
abbrev pub Decided : Type 0 → Type 0
Decided P = (b : Bool) × (IsTrue b ↔ P)

pub decided_not : (P : Type 0) → ¬ P → Decided P
decided_not P fails = (false, (λ e. absurd (false≢true e), λ p. absurd (fails p)))

pub decided : (P : Type 0) → ¬ (¬ (Decided P))
decided P never = never (decided_not P (λ p. never (true, (λ e. p, λ q. refl))))

-- what is missing at no number, and stands at each from some number on, isn't missing at all numbers together
pub none_missing : (count : ℕ) (Q : ℕ → Type 0) → ((k : ℕ) → count ≤ k → Q k) → ((k : ℕ) → ¬ (¬ (Q k))) → ¬ (¬ ((k : ℕ) → Q k))
none_missing zero Q behind each never = never (λ k. behind k (omega arith))
none_missing (suc count) Q behind each never =
    each 0 (λ here. none_missing count (λ k. Q (suc k)) (λ k le. behind (suc k) (omega arith)) (λ k. each (suc k)) (λ more. never (all here more)))
  where
    all : Q 0 → ((k : ℕ) → Q (suc k)) → (k : ℕ) → Q k
    all here more zero = here
    all here more (suc k) = more k
