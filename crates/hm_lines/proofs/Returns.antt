-- Bytes without one carriage return at the end.
use Rattle.std.proofs.Common.{◌≡◌, ℕ, ◌⊎◌, inl, inr, Bool, true, false, cond, List, [], ◌∷◌, ◌++◌, refl, sym, ap, ◌∙◌, subst, arith}
use Rattle.std.specs.Bool.{◌==◌}
use Rattle.std.proofs.lemmas.Bool.{eqb-true, eq-eqb, ne_eqb}
use Rattle.std.proofs.lemmas.List.{get_or_append_left, length-append, append-nil}
use Rattle.hm_lines.specs.Unfolding.{return, without_return}
use Rattle.hm_lines.specs.Folding.{HasNone}

pub at_last : (front : List ℕ) (b : ℕ) → without_return (front ++ b ∷ []) ≡ front ++ cond (b == return) [] (b ∷ [])
at_last [] b = refl
at_last (a ∷ []) b = refl
at_last (a ∷ c ∷ front) b = ap (λ l. a ∷ l) (at_last (c ∷ front) b)

-- either nothing goes, or the carriage return at the end
pub record Goes (bytes : List ℕ) : Type 0 where
  pub front : List ℕ
  pub parts : bytes ≡ front ++ return ∷ []
  pub is : without_return bytes ≡ front

pub stays_or_goes : (bytes : List ℕ) → (without_return bytes ≡ bytes) ⊎ Goes bytes
stays_or_goes [] = inl refl
stays_or_goes (b ∷ []) = go (b == return) refl
  where
    go : (c : Bool) → (b == return) ≡ c → (cond c [] (b ∷ []) ≡ b ∷ []) ⊎ Goes (b ∷ [])
    go true e = inr (record { front = []; parts = ap (λ a. a ∷ []) (eqb-true b return e); is = rw e refl })
    go false e = inl refl
stays_or_goes (b ∷ c ∷ bytes) = elim (stays_or_goes (c ∷ bytes)) [
  | inl same ↦ inl (ap (λ l. b ∷ l) same)
  | inr goes ↦ inr (record { front = b ∷ goes.front; parts = ap (λ l. b ∷ l) goes.parts; is = ap (λ l. b ∷ l) goes.is })
]

pub kept_none : (x : ℕ) (bytes : List ℕ) → HasNone x bytes → HasNone x (without_return bytes)
kept_none x bytes all = elim (stays_or_goes bytes) [
  | inl same ↦ subst (HasNone x) (sym same) all
  | inr goes ↦ subst (HasNone x) (sym goes.is) (front_none goes.front (subst (HasNone x) goes.parts all))
]
  where
    front_none : (front : List ℕ) → HasNone x (front ++ return ∷ []) → HasNone x front
    front_none front all k d lt =
        let more = length-append front (return ∷ []) in
        subst (λ b. (b == x) ≡ false) (get_or_append_left front (return ∷ []) d k lt) (all k d (omega arith))

pub last_goes : (front bytes : List ℕ) (b : ℕ) → bytes ≡ front ++ b ∷ [] → b ≡ return → front ≡ without_return bytes
last_goes front bytes b is e =
    sym (append-nil front) ∙ sym (ap (λ c. front ++ cond c [] (b ∷ [])) (eq-eqb b return e)) ∙ sym (at_last front b) ∙ sym (ap without_return is)

pub last_stays : (front bytes : List ℕ) (b : ℕ) → bytes ≡ front ++ b ∷ [] → (b ≡ return → ⊥) → bytes ≡ without_return bytes
last_stays front bytes b is other =
    is ∙ sym (ap (λ c. front ++ cond c [] (b ∷ [])) (ne_eqb b return other)) ∙ sym (at_last front b) ∙ sym (ap without_return is)
