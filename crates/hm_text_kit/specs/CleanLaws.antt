-- A text is clean exactly where cleaning keeps each of its bytes.
use Rattle.std.proofs.Common.{◌≡◌, ℕ, suc, true, false, IsTrue, List, [], ◌∷◌, refl, sym, ap, ◌∙◌, subst, arith, inl, inr}
use Rattle.std.specs.Prelude.{◌==◌, All, filter}
use Rattle.std.proofs.lemmas.Bool.{eqb-true, cases_Bool, true≢false, cond_both}
use Rattle.std.proofs.lemmas.List.Elements.{All-cons}
use Rattle.hm_tree.specs.Names.{Name}
use Rattle.hm_tree.specs.Cleaned.{is_kept, pairs_made_feeds, returns_made_feeds, cleaned}

abbrev pub Kept : ℕ → Type 0
Kept b = IsTrue (is_kept b)

-- CR isn't kept
no_return : (b : ℕ) → Kept b → (b == 13) ≡ false
no_return b h = elim (cases_Bool (b == 13)) [
  | inl is ↦ let bad : false ≡ true = rw (eqb-true b 13 is) at h in absurd (true≢false (sym bad))
  | inr isnt ↦ isnt
]

cleaned_kept : (b : ℕ) (t : Name) → Kept b → cleaned (b ∷ t) ≡ b ∷ cleaned t
unfolding cleaned
cleaned_kept b t h = let plain = no_return b h in rw plain (rw plain (rw h refl))

cleaned_empty : cleaned [] ≡ []
unfolding cleaned
cleaned_empty = refl

pub clean_from_kept : (t : Name) → All Kept t → cleaned t ≡ t
clean_from_kept [] all = cleaned_empty
clean_from_kept (b ∷ t) all = cleaned_kept b t (all 0 0 (omega arith)) ∙ ap (λ l. b ∷ l) (clean_from_kept t (λ k d lt. all (suc k) d (omega arith)))

All_filtered : (t : List ℕ) → All Kept (filter is_kept t)
All_filtered [] = λ k d lt. absurd (omega arith)
All_filtered (b ∷ t) = cond_both (is_kept b) (b ∷ filter is_kept t) (filter is_kept t) (All Kept) (λ e. All-cons Kept b (filter is_kept t) e (All_filtered t)) (λ _. All_filtered t)

pub kept_from_clean : (t : Name) → cleaned t ≡ t → All Kept t
unfolding cleaned
kept_from_clean t e = subst (All Kept) e (All_filtered (returns_made_feeds (pairs_made_feeds t)))
