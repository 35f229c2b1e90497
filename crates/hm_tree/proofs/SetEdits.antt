-- Sets of names as the lists that they are made of: with a name more, without one, a part of them, and the names of two.
use Rattle.std.proofs.Common.{◌≡◌, ℕ, ◌≤◌, Bool, true, false, cond, not, ◌&&◌, ◌||◌, List, [], ◌∷◌, ◌++◌, length, take, refl, sym, ap, subst, ◌∙◌}
use Rattle.std.specs.List.{list_any, filter}
use Rattle.std.specs.List.Sorted.{IsStrictlySortedBy}
use Rattle.std.specs.FinSet as set
use Rattle.std.proofs.lemmas.List.{take_all}
use Rattle.std.proofs.lemmas.List.Kept.{IsStrictlySortedBy-filter}
use Rattle.std.proofs.lemmas.List.Folds.{list_any-append}
use Rattle.hm_tree.specs.Names.{Name, name_cmp}
use Rattle.hm_tree.specs.Sets.{AreParted}
use Rattle.hm_tree.proofs.Sorted.{name_total, name_one}
use Rattle.hm_tree.proofs.NameSets.{tied, tied_one}

and_false : (b : Bool) → (b && false) ≡ false
and_false true = refl
and_false false = refl

module _ (p : Name → Bool) where
  any_kept : (q : Name) (xs : List Name) → list_any (tied q) (filter p xs) ≡ (list_any (tied q) xs && p q)
  any_kept q [] = refl
  any_kept q (x ∷ xs) = go (p x) (tied q x) refl refl (any_kept q xs)
    where
      go : (b t : Bool) → p x ≡ b → tied q x ≡ t → list_any (tied q) (filter p xs) ≡ (list_any (tied q) xs && p q)
          → list_any (tied q) (cond b (x ∷ filter p xs) (filter p xs)) ≡ ((t || list_any (tied q) xs) && p q)
      go true true e t rest = ap (λ b. b || list_any (tied q) (filter p xs)) t ∙ sym (ap p (tied_one q x t) ∙ e)
      go true false e t rest = ap (λ b. b || list_any (tied q) (filter p xs)) t ∙ rest
      go false true e t rest =
          let off : p q ≡ false = ap p (tied_one q x t) ∙ e in
          rest ∙ ap (λ b. list_any (tied q) xs && b) off ∙ and_false (list_any (tied q) xs) ∙ sym off
      go false false e t rest = rest

  pub set_of-filter : (xs : List Name) → set.from_list {R = name_cmp} (filter p xs) ≡ set.retain (set.from_list xs) p
  set_of-filter xs = set.same_set name_total name_one _ _ (λ q.
      set.contains-from_list name_total (filter p xs) q ∙ any_kept q xs
      ∙ sym (set.contains-retain (set.from_list xs) p q (λ x t. ap p (sym (name_one q x t)))
      ∙ ap (λ b. b && p q) (set.contains-from_list name_total xs q)))

pub set_of-both : (xs ys : List Name) → set.from_list {R = name_cmp} (xs ++ ys) ≡ set.union (set.from_list xs) (set.from_list ys)
set_of-both xs ys = set.same_set name_total name_one _ _ (λ q.
    set.contains-from_list name_total (xs ++ ys) q ∙ list_any-append (tied q) xs ys
    ∙ sym (set.contains-union name_total (set.from_list xs) (set.from_list ys) q
    ∙ (λ i. set.contains-from_list name_total xs q i || set.contains-from_list name_total ys q i)))

-- without a name there are the names that aren't in the set of it alone
pub without_one : (s : set.FinSet name_cmp) (k : Name)
    → set.retain s (λ q. not (set.contains (set.from_list {R = name_cmp} (k ∷ [])) q)) ≡ set.remove s k
without_one s k = set.same_set name_total name_one _ _ (λ q.
    set.contains-retain s _ q (λ x t. ap (λ q. not (set.contains (set.from_list {R = name_cmp} (k ∷ [])) q)) (sym (name_one q x t)))
    ∙ ap (λ b. set.contains s q && not b) (set.contains-from_list name_total (k ∷ []) q) ∙ go (set.contains s q) (tied q k)
    ∙ sym (set.contains-remove name_total s k q))
  where
    go : (b t : Bool) → (b && not (t || false)) ≡ (not t && b)
    go true true = refl
    go true false = refl
    go false true = refl
    go false false = refl

-- ---- the parts of a list

module _ (names s : set.FinSet name_cmp) (xs inside outside : List Name) (i : ℕ) (le : length xs ≤ i) (parted : AreParted names (take i xs) inside outside)
    (rise : IsStrictlySortedBy name_cmp xs) (is : set.from_list {R = name_cmp} xs ≡ s) where
  inside_all : inside ≡ filter (λ k. set.contains names k) xs
  inside_all = parted.inside_is ∙ ap (filter (λ k. set.contains names k)) (take_all i xs le)

  outside_all : outside ≡ filter (λ k. not (set.contains names k)) xs
  outside_all = parted.outside_is ∙ ap (filter (λ k. not (set.contains names k))) (take_all i xs le)

  pub inside_rises : IsStrictlySortedBy name_cmp inside
  inside_rises = subst (IsStrictlySortedBy name_cmp) (sym inside_all) (IsStrictlySortedBy-filter name_cmp (λ k. set.contains names k) xs rise)

  pub outside_rises : IsStrictlySortedBy name_cmp outside
  outside_rises = subst (IsStrictlySortedBy name_cmp) (sym outside_all) (IsStrictlySortedBy-filter name_cmp (λ k. not (set.contains names k)) xs rise)

  pub inside_set : set.from_list {R = name_cmp} inside ≡ set.retain s (λ k. set.contains names k)
  inside_set = ap (set.from_list {R = name_cmp}) inside_all ∙ set_of-filter (λ k. set.contains names k) xs
      ∙ ap (λ s. set.retain s (λ k. set.contains names k)) is

  pub outside_set : set.from_list {R = name_cmp} outside ≡ set.retain s (λ k. not (set.contains names k))
  outside_set = ap (set.from_list {R = name_cmp}) outside_all ∙ set_of-filter (λ k. not (set.contains names k)) xs
      ∙ ap (λ s. set.retain s (λ k. not (set.contains names k))) is
