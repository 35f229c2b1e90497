-- What the classes of names say of a text's bytes.
use Rattle.std.proofs.Common.{◌≡◌, ℕ, suc, true, false, not, IsTrue, List, [], ◌∷◌, refl, sym, ap, ◌∙◌, subst, arith, inl, inr}
use Rattle.std.specs.Bool.{◌==◌}
use Rattle.std.specs.List.{All, filter}
use Rattle.std.proofs.lemmas.List.Elements.{All-cons}
use Rattle.std.proofs.lemmas.Bool.{eqb-true, cases_Bool, true≢false, and_from, cond_both, ne_eqb}
use Rattle.hm_tree.specs.Names.{Name}
use Rattle.hm_tree.specs.Cleaned.{is_kept, cleaned}
use Rattle.hm_tree.proofs.LineEnds.{line_ends, has_no_return, line_ends_same, cleaned-line_ends}
use Rattle.hm_tree.specs.Classes.{is_text, IsFilled}
use Rattle.std.proofs.lemmas.List.Folds.{Any-from_list_any, list_any-from_Any}

kept_no_return : (b : ℕ) → is_kept b ≡ true → not (b == 13) ≡ true
kept_no_return b h = elim (cases_Bool (b == 13)) [
  | inl e ↦ let bad : false ≡ true = rw (eqb-true b 13 e) at h in absurd (true≢false (sym bad))
  | inr e ↦ rw e refl
]

no_return_from_kept : (t : List ℕ) → All (λ b. IsTrue (is_kept b)) t → has_no_return t ≡ true
no_return_from_kept [] all = refl
no_return_from_kept (b ∷ t) all = and_from (not (b == 13)) (has_no_return t) (kept_no_return b (all 0 0 (omega arith)))
    (no_return_from_kept t (λ k d lt. all (suc k) d (omega arith)))

filter_kept : (t : List ℕ) → All (λ b. IsTrue (is_kept b)) t → filter is_kept t ≡ t
filter_kept [] all = refl
filter_kept (b ∷ t) all = rw (all 0 0 (omega arith)) (ap (λ l. b ∷ l) (filter_kept t (λ k d lt. all (suc k) d (omega arith))))

pub clean_from_kept : (t : Name) → All (λ b. IsTrue (is_kept b)) t → cleaned t ≡ t
clean_from_kept t all = cleaned-line_ends t ∙ ap (filter is_kept) (line_ends_same t (no_return_from_kept t all)) ∙ filter_kept t all

All_filtered : (t : List ℕ) → All (λ b. IsTrue (is_kept b)) (filter is_kept t)
All_filtered [] = λ k d lt. absurd (omega arith)
All_filtered (b ∷ t) =
    cond_both (is_kept b) (b ∷ filter is_kept t) (filter is_kept t) (λ l. All (λ b. IsTrue (is_kept b)) l)
    (λ e. All-cons (λ b. IsTrue (is_kept b)) b (filter is_kept t) e (All_filtered t))
    (λ _. All_filtered t)

pub kept_from_clean : (t : Name) → cleaned t ≡ t → All (λ b. IsTrue (is_kept b)) t
kept_from_clean t e = subst (All (λ b. IsTrue (is_kept b))) (sym (cleaned-line_ends t) ∙ e) (All_filtered (line_ends false t))

-- what is cleaned is clean
pub cleaned-cleaned : (t : Name) → cleaned (cleaned t) ≡ cleaned t
cleaned-cleaned t = clean_from_kept (cleaned t) (subst (All (λ b. IsTrue (is_kept b))) (sym (cleaned-line_ends t)) (All_filtered (line_ends false t)))

pub ruleset clean_laws = (clean_from_kept, kept_from_clean)

-- ---- texts that may not be clean

-- a clean text that isn't of spaces alone is Filled, and a Filled one is such a text
pub filled_text : (t : Name) → cleaned t ≡ t → is_text t ≡ true → IsFilled t
filled_text t clean e =
    let one = Any-from_list_any (λ b. not (b == 32)) t e in
    record {
      clean = clean;
      filled = (one.0, one.1, one.2, one.3, λ same. let t : (one.1 == 32) ≡ true = ap (λ b. b == 32) same in let bad : ⊥ = cc in bad);
    }

pub text_filled : (t : Name) → IsFilled t → is_text (cleaned t) ≡ true
text_filled t filled =
    ap is_text filled.clean
    ∙ list_any-from_Any (λ b. not (b == 32)) t
    (filled.filled.0, filled.filled.1, filled.filled.2, filled.filled.3, ap not (ne_eqb filled.filled.1 32 filled.filled.4))
