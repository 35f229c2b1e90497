-- Answers of a test.
use Rattle.std.proofs.Common.{◌≡◌, ◌↔◌, Bool, true, false, not, IsTrue, refl, sym, ◌∙◌}
use mathlib.Core.Bool.{false≢true}

pub is_so : {P : Type 0} → P → IsTrue true ↔ P
is_so p = (λ _. p, λ _. refl)

pub is_not : {P : Type 0} → (P → ⊥) → IsTrue false ↔ P
is_not n = (λ f. absurd (false≢true f), λ p. absurd (n p))

-- what a test answered
pub says_no : {P : Type 0} {b : Bool} → IsTrue b ↔ P → b ≡ false → P → ⊥
says_no h e p = false≢true (sym e ∙ h.1 p)

-- a test holds where two facts follow from one another
pub as_well : {P Q : Type 0} {b : Bool} → IsTrue b ↔ P → P ↔ Q → IsTrue b ↔ Q
as_well h e = (λ t. e.0 (h.0 t), λ q. h.1 (e.1 q))

-- one test after another
pub both_hold : {P Q : Type 0} {a b : Bool} → IsTrue a ↔ P → a ≡ true → IsTrue b ↔ Q → IsTrue b ↔ (P × Q)
both_hold h e g = (λ t. (h.0 e, g.0 t), λ both. g.1 both.1)

pub not_so : {P : Type 0} {b : Bool} → IsTrue b ↔ P → IsTrue (not b) ↔ (P → ⊥)
not_so {b = true} h = is_not (λ n. n (h.0 refl))
not_so {b = false} h = is_so (λ p. false≢true (h.1 p))
