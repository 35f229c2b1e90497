-- Letters without their case.
use Rattle.std.proofs.Common.{◌≡◌, ◌⊎◌, ◌+◌, ◌≤◌, ℕ, cond, nat_lt, sym, ap, ◌∙◌, arith, inl, inr}
use Rattle.std.specs.Char.{to_ascii_lowercase}
use Rattle.std.proofs.lemmas.Bool.{cases_lt, lt-ltb, le-ltb}
use Rattle.hm_lines.specs.Content.{colon}

-- a byte that is lowered to another is it, or a capital
pub like : (b x : ℕ) → to_ascii_lowercase b ≡ x → (b ≡ x) ⊎ ((b + 32 ≡ x) × (65 ≤ b))
like b x e = elim (cases_lt b 65) [
  | inl low ↦ inl (sym (ap (λ t. cond t b (cond (nat_lt b 91) (b + 32) b)) (lt-ltb b 65 low)) ∙ e)
  | inr le ↦ elim (cases_lt b 91) [
    | inl upper ↦ inr (sym (ap (λ t. cond t b (cond (nat_lt b 91) (b + 32) b)) (le-ltb b 65 le) ∙ ap (λ t. cond t (b + 32) b) (lt-ltb b 91 upper)) ∙ e, le)
    | inr high ↦ inl (sym (ap (λ t. cond t b (cond (nat_lt b 91) (b + 32) b)) (le-ltb b 65 le) ∙ ap (λ t. cond t (b + 32) b) (le-ltb b 91 high)) ∙ e)
  ]
]

pub colon_like : (b : ℕ) → to_ascii_lowercase b ≡ colon → b ≡ colon
colon_like b e = elim (like b colon e) [
  | inl same ↦ same
  | inr other ↦ let one = other.0 in let two = other.1 in absurd (omega (arith, one, two))
]
