-- Calls that are added behind others.
use Rattle.std.proofs.Common.{◌≡◌, ◌↔◌, ◌⊎◌, ℕ, ◌+◌, ◌<◌, List, [], ◌∷◌, ◌++◌, length, get_or, take, append-nil, append_assoc, sym, subst, ◌∙◌, inl, inr, ap, arith}
use Rattle.std.proofs.lemmas.List.{take_more}
use Rattle.std.proofs.lemmas.List.Elements.{Contains-append_left, Contains-push, Contains-push_cases}
use Rattle.std.specs.List.{Contains}
use Rattle.hm_terms_cycles.specs.declared.call.Call.{Call}
use Rattle.hm_terms_cycles.specs.CallSets.{Adds, BehindOne}
use Rattle.hm_terms_cycles.specs.Calls.{behind}

-- what is asked for is there
pub adds_there : (P : Call → Type 0) (calls : List Call) → ((x : Call) → P x → Contains calls x) → Adds P calls calls
adds_there P calls f = record {
  added = [];
  is = sym (append-nil calls);
  all = λ x. (inl, λ h. elim h [ inl there ↦ there | inr p ↦ f x p ]);
}

-- one thing and then another
pub adds_both : (P Q R : Call → Type 0) (old mid new : List Call) → Adds P old mid → Adds Q mid new → ((x : Call) → R x ↔ (P x ⊎ Q x))
    → Adds R old new
adds_both P Q R old mid new h j same = record {
  added = h.added ++ j.added;
  is = j.is ∙ ap (λ l. l ++ j.added) h.is ∙ append_assoc old h.added j.added;
  all = λ x. (
    λ there. elim ((j.all x).0 there) [
      | inl m ↦ elim ((h.all x).0 m) [ inl o ↦ inl o | inr p ↦ inr ((same x).1 (inl p)) ]
      | inr q ↦ inr ((same x).1 (inr q))
    ],
    λ there. elim there [
      | inl o ↦ (j.all x).1 (inl ((h.all x).1 (inl o)))
      | inr r ↦ elim ((same x).0 r) [ inl p ↦ (j.all x).1 (inl ((h.all x).1 (inr p))) | inr q ↦ (j.all x).1 (inr q) ]
    ],
  );
}

-- the same, said otherwise
pub adds_same : (P R : Call → Type 0) (old new : List Call) → Adds P old new → ((x : Call) → R x ↔ P x) → Adds R old new
adds_same P R old new h same = record {
  added = h.added;
  is = h.is;
  all = λ x. (
    λ there. elim ((h.all x).0 there) [ inl o ↦ inl o | inr p ↦ inr ((same x).1 p) ],
    λ there. elim there [ inl o ↦ (h.all x).1 (inl o) | inr r ↦ (h.all x).1 (inr ((same x).0 r)) ],
  );
}

-- ---- the ways by a way and one of some calls

pub behind_none : (way : Call) (x : Call) → ¬ (BehindOne way [] x)
behind_none way x h = absurd (omega (arith, h.1.1))

pub behind_more : (way r : Call) (calls : List Call) (i : ℕ) (d : Call) → i < length calls → r ≡ behind way (get_or calls i d) → (x : Call)
    → BehindOne way (take (i + 1) calls) x ↔ (BehindOne way (take i calls) x ⊎ (x ≡ r))
behind_more way r calls i d lt is x =
    let e = take_more calls i d lt in (
      λ h. elim (Contains-push_cases (take i calls) (get_or calls i d) h.0 (subst (λ l. Contains l h.0) e h.1)) [
        | inl old ↦ inl (h.0, old, h.2)
        | inr it ↦ inr (h.2 ∙ ap (behind way) (sym it) ∙ sym is)
      ],
      λ h. elim h [
        | inl old ↦ (old.0, subst (λ l. Contains l old.0) (sym e) (Contains-append_left (take i calls) (get_or calls i d ∷ []) old.0 old.1), old.2)
        | inr it ↦ (get_or calls i d, subst (λ l. Contains l (get_or calls i d)) (sym e) (Contains-push (take i calls) (get_or calls i d)), it ∙ is)
      ],
    )
