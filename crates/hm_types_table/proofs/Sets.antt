-- Sets of names and the lists that they are kept as.
use mathlib.Core.Bool.{beq, true≢false}
use Rattle.std.proofs.Common.{◌≡◌, ℕ, Bool, true, false, not, IsTrue, List, [], ◌∷◌, length, get_or, slice_get, Some, Err, Ok, All, refl, sym, ap, subst, ◌∙◌, arith}
use Rattle.std.specs.List.{list_any}
use Rattle.std.specs.List.Sorted.{IsStrictlySortedBy, IsSearchInRange, IsBinarySearchResult}
use Rattle.std.specs.Ordering.{eq_by_cmp}
use Rattle.std.specs.FinSet.{FinSet, from_list, contains, contains-from_list}
use Rattle.std.proofs.lemmas.Option.{slice_get-get_or}
use Rattle.hm_tree.specs.Names.{Name, name_cmp}
use Rattle.hm_tree.proofs.Sorted.{name_total, name_one}
use Rattle.hm_tree.proofs.NameSets.{searched_any}
use Rattle.hm_tree.proofs.Ascending.{ascending_is, ascending_all, contains-ascending}

none_sorted : IsStrictlySortedBy name_cmp []
unfolding IsStrictlySortedBy
none_sorted = tt

pub one_sorted : (k : Name) → IsStrictlySortedBy name_cmp (k ∷ [])
unfolding IsStrictlySortedBy
one_sorted k = (tt, tt)

-- the list of a set is determined by the set
module _ (names : List Name) (s : FinSet name_cmp) (rise : IsStrictlySortedBy name_cmp names) (is : from_list {R = name_cmp} names ≡ s) where
  one_list : (other : List Name) → IsStrictlySortedBy name_cmp other → s ≡ from_list {R = name_cmp} other → names ≡ other
  one_list other f g = sym (ascending_is names s rise is) ∙ ascending_is other s f (sym g)

  pub none_is : s ≡ from_list {R = name_cmp} [] → names ≡ []
  none_is = one_list [] none_sorted

  pub one_is : (k : Name) → s ≡ from_list {R = name_cmp} (k ∷ []) → names ≡ k ∷ []
  one_is k = one_list (k ∷ []) (one_sorted k)

  -- what holds of each name of the list holds of each in the set, and each name of the list is in it
  pub all_of : (P : Name → Type 0) → All P names → (k : Name) → IsTrue (contains s k) → P k
  all_of P all = ascending_all P s (subst (All P) (sym (ascending_is names s rise is)) all)

  pub in_set : (i : ℕ) (k : Name) → slice_get names i ≡ Some k → IsTrue (contains s k)
  in_set i k at = contains-ascending s i k (ap (λ l. slice_get l i) (ascending_is names s rise is) ∙ at)

pub no_names : {X : Type 0} (xs : List X) → length xs ≡ 0 → xs ≡ []
no_names [] e = refl
no_names (x ∷ xs) e = absurd (omega arith)

-- ---- where a name stands among names that rise

module _ (q : Name) (xs : List Name) (rise : IsStrictlySortedBy name_cmp xs) where
  pub place_found : (i : ℕ) → IsSearchInRange (Ok i) (length xs) → IsBinarySearchResult (λ x. name_cmp x q) xs (Ok i) → slice_get xs i ≡ Some q
  place_found i within found = slice_get-get_or xs i q within ∙ ap Some (name_one (get_or xs i q) q (found q))

  pub place_none : (i : ℕ) → IsSearchInRange (Err i) (length xs) → IsBinarySearchResult (λ x. name_cmp x q) xs (Err i)
      → list_any (eq_by_cmp name_cmp q) xs ≡ false
  place_none i within found = sym (contains-from_list name_total xs q) ∙ sym (searched_any q xs rise (Err i) within found)

-- ---- two answers that differ, and that don't

pub differ : (a b : Bool) → not (beq a b) ≡ true → a ≡ b → ⊥
differ true true e f = true≢false (sym e)
differ true false e f = true≢false f
differ false true e f = true≢false (sym f)
differ false false e f = true≢false (sym e)

pub agree : (a b : Bool) → not (beq a b) ≡ false → a ≡ b
agree true true e = refl
agree true false e = absurd (true≢false e)
agree false true e = absurd (true≢false e)
agree false false e = refl
