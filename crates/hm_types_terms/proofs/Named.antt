-- Rows of named lenses.
use Rattle.std.proofs.Common.{◌≡◌, ◌+◌, ℕ, zero, suc, Bool, true, false, cond, IsTrue, IsSome, List, [], ◌∷◌, ◌++◌, take, slice_get, Option, Some, None, refl, sym, ap, subst, ◌∙◌, add-one}
use Rattle.std.specs.Option.{option_or}
use mathlib.Core.Bool.{false≢true}
use Rattle.std.specs.Ordering.{eq_by_cmp}
use Rattle.std.proofs.lemmas.Option.{same_Some, none-some}
use Rattle.hm_tree.specs.Names.{Name, name_cmp}
use Rattle.hm_tree.proofs.Kept.{take_more}
use Rattle.hm_schema.specs.Values.{NodeValue, is_listed}
use Rattle.hm_schema.proofs.NamesOf.{tie_one}
use Rattle.hm_terms.specs.declared.term.Term.{Term}
use Rattle.hm_terms.specs.Lenses.{Lens, lens_at}
use Rattle.hm_terms.specs.Programs.{lens_of, lenses_of}
use Rattle.hm_terms_laws.proofs.CallLists.{tied}
use Rattle.hm_types_forms.specs.Forms.{Label, label_of}
use Rattle.hm_types_rules.specs.Typing.{AreListed}
use Rattle.hm_types_table.proofs.Forms.{is_listed_over}

abbrev pub Terms : Type 0
Terms = List (Name × Term)

-- the lens of a name among first rows and one more
pub at_last : (rows : Terms) (row : Name × Term) (k : Name)
    → lens_at k (lenses_of (rows ++ row ∷ [])) ≡ option_or (lens_at k (lenses_of rows)) (cond (eq_by_cmp name_cmp k row.0) (Some (lens_of row.1)) None)
at_last [] row k = go (eq_by_cmp name_cmp k row.0)
  where
    go : (b : Bool) → cond b (Some (lens_of row.1)) None ≡ option_or None (cond b (Some (lens_of row.1)) None)
    go true = refl
    go false = refl
at_last (r ∷ rows) row k = go (eq_by_cmp name_cmp k r.0) (at_last rows row k)
  where
    go : (b : Bool) → lens_at k (lenses_of (rows ++ row ∷ [])) ≡ option_or (lens_at k (lenses_of rows)) (cond (eq_by_cmp name_cmp k row.0) (Some (lens_of row.1)) None)
        → cond b (Some (lens_of r.1)) (lens_at k (lenses_of (rows ++ row ∷ [])))
        ≡ option_or (cond b (Some (lens_of r.1)) (lens_at k (lenses_of rows))) (cond (eq_by_cmp name_cmp k row.0) (Some (lens_of row.1)) None)
    go true e = refl
    go false e = e

module _ (rows : Terms) (i : ℕ) (row : Name × Term) (at : slice_get rows i ≡ Some row) where
  pub one_more : take (i + 1) rows ≡ take i rows ++ row ∷ []
  one_more = rw add-one (take_more rows i row at)

  pub at_next : (k : Name)
      → lens_at k (lenses_of (take (i + 1) rows)) ≡ option_or (lens_at k (lenses_of (take i rows))) (cond (eq_by_cmp name_cmp k row.0) (Some (lens_of row.1)) None)
  at_next k = ap (λ rows. lens_at k (lenses_of rows)) one_more ∙ at_last (take i rows) row k

  pub listed_next : (a : Label) → IsTrue (is_listed a row.0) → AreListed a (lenses_of (take i rows)) → AreListed a (lenses_of (take (i + 1) rows))
  listed_next a here before k some = go (lens_at k (lenses_of (take i rows))) refl (eq_by_cmp name_cmp k row.0) refl (subst IsSome (at_next k) some)
    where
      go : (o : Option Lens) → lens_at k (lenses_of (take i rows)) ≡ o → (b : Bool) → eq_by_cmp name_cmp k row.0 ≡ b
          → IsSome (option_or o (cond b (Some (lens_of row.1)) None)) → IsTrue (is_listed a k)
      go (Some l) e b f s = before k (subst IsSome (sym e) refl)
      go None e true f s = subst (λ k. IsTrue (is_listed a k)) (sym (tie_one k row.0 f)) here
      go None e false f s = absurd (false≢true s)

-- a row that stands there has a lens
pub row_some : (rows : Terms) (i : ℕ) (row : Name × Term) → slice_get rows i ≡ Some row → IsSome (lens_at row.0 (lenses_of rows))
row_some [] i row at = absurd (none-some row at)
row_some (r ∷ rows) zero row at = subst (λ b. IsSome (cond b (Some (lens_of r.1)) (lens_at row.0 (lenses_of rows))))
    (sym (ap (λ (q : Name × Term). eq_by_cmp name_cmp row.0 q.0) (same_Some r row at) ∙ tied row.0)) refl
row_some (r ∷ rows) (suc i) row at = go (eq_by_cmp name_cmp row.0 r.0) (row_some rows i row at)
  where
    go : (b : Bool) → IsSome (lens_at row.0 (lenses_of rows)) → IsSome (cond b (Some (lens_of r.1)) (lens_at row.0 (lenses_of rows)))
    go true h = refl
    go false h = h

module _ (rows : Terms) (i : ℕ) (row : Name × Term) (at : slice_get rows i ≡ Some row) (n : NodeValue) where
  pub not_listed : is_listed n row.0 ≡ false → AreListed (label_of n) (lenses_of rows) → ⊥
  not_listed e h = false≢true (sym e ∙ sym (is_listed_over (λ s i. tt) n row.0) ∙ h row.0 (row_some rows i row at))

pub listed_here : (n : NodeValue) (k : Name) → is_listed n k ≡ true → IsTrue (is_listed (label_of n) k)
listed_here n k e = is_listed_over (λ s i. tt) n k ∙ e
