-- Sets of names with one name more, with one less, and with those alone that pass a test.
use Rattle.std.proofs.Common.{◌≡◌, ◌⊎◌, Bool, true, false, not, IsTrue, refl, sym, ap, ◌∙◌, inl, inr}
use Rattle.std.proofs.lemmas.Bool.{true≢false, and_parts, and_from, or_cases, or_left, or_right, not-true, false_from_ne_true}
use Rattle.std.specs.Ordering.{eq_by_cmp}
use Rattle.std.specs.FinSet.{contains, insert, remove, retain, len, empty, contains-insert, contains-remove, contains-empty, len-empty, empty_of_len}
use Rattle.hm_tree.specs.Names.{Name, name_cmp}
use Rattle.hm_tree.proofs.Sorted.{name_total}
use Rattle.hm_tree.proofs.NameSets.{tied_one, tied_self}
use Rattle.hm_schema.specs.Values.{Names}
use Rattle.hm_schema.proofs.NamesOf.{kept, same_names}

-- two names are the same, or they are not
pub same_name : (k m : Name) → (k ≡ m) ⊎ (k ≡ m → ⊥)
same_name k m = go (eq_by_cmp name_cmp k m) refl
  where
    go : (b : Bool) → eq_by_cmp name_cmp k m ≡ b → (k ≡ m) ⊎ (k ≡ m → ⊥)
    go true e = inl (tied_one k m e)
    go false e = inr (λ h. true≢false (sym (tied_self k) ∙ ap (eq_by_cmp name_cmp k) h ∙ e))

tied_same : (k m : Name) → k ≡ m → eq_by_cmp name_cmp k m ≡ true
tied_same k m e = sym (ap (eq_by_cmp name_cmp k) e) ∙ tied_self k

tied_not : (k m : Name) → (k ≡ m → ⊥) → eq_by_cmp name_cmp k m ≡ false
tied_not k m f = false_from_ne_true (eq_by_cmp name_cmp k m) (λ t. f (tied_one k m t))

-- ---- a name more, and a name less

module _ (m : Name) (s : Names) (k : Name) where
  pub in_insert : IsTrue (contains (insert s m) k) → (k ≡ m) ⊎ IsTrue (contains s k)
  in_insert h = elim (or_cases (eq_by_cmp name_cmp k m) (contains s k) (sym (contains-insert name_total s m k) ∙ h)) [
    | inl e ↦ inl (tied_one k m e)
    | inr g ↦ inr g
  ]

  pub insert_old : IsTrue (contains s k) → IsTrue (contains (insert s m) k)
  insert_old h = contains-insert name_total s m k ∙ or_right (eq_by_cmp name_cmp k m) (contains s k) h

  pub insert_new : k ≡ m → IsTrue (contains (insert s m) k)
  insert_new e = contains-insert name_total s m k ∙ or_left (eq_by_cmp name_cmp k m) (contains s k) (tied_same k m e)

  pub in_remove : IsTrue (contains (remove s m) k) → (k ≡ m → ⊥) × IsTrue (contains s k)
  in_remove h =
      let parts = and_parts (not (eq_by_cmp name_cmp k m)) (contains s k) (sym (contains-remove name_total s m k) ∙ h) in
      (λ e. true≢false (sym (tied_same k m e) ∙ not-true (eq_by_cmp name_cmp k m) parts.0), parts.1)

  pub remove_from : (k ≡ m → ⊥) → IsTrue (contains s k) → IsTrue (contains (remove s m) k)
  remove_from f h = contains-remove name_total s m k
      ∙ and_from (not (eq_by_cmp name_cmp k m)) (contains s k) (ap not (tied_not k m f)) h

-- ---- the names that pass a test

module _ (p : Name → Bool) (s : Names) (k : Name) where
  pub kept_parts : IsTrue (contains (retain s p) k) → IsTrue (contains s k) × IsTrue (p k)
  kept_parts h = and_parts (contains s k) (p k) (sym (kept p s k) ∙ h)

  pub kept_from : IsTrue (contains s k) → IsTrue (p k) → IsTrue (contains (retain s p) k)
  kept_from h g = kept p s k ∙ and_from (contains s k) (p k) h g

-- ---- no names

pub none_len : (s : Names) → ((k : Name) → IsTrue (contains s k) → ⊥) → len s ≡ 0
none_len s f = ap len (same_names s (empty {R = name_cmp}) (λ k. false_from_ne_true (contains s k) (f k) ∙ sym (contains-empty name_cmp k)))
    ∙ len-empty name_cmp

pub len_none : (s : Names) → len s ≡ 0 → (k : Name) → IsTrue (contains s k) → ⊥
len_none s e k h = true≢false (sym h ∙ ap (λ s. contains s k) (empty_of_len s e) ∙ contains-empty name_cmp k)
