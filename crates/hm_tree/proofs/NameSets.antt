-- Lists of names, and the sets that they make.
use Rattle.std.proofs.Common.{◌≡◌, ℕ, zero, suc, ◌+◌, ◌<◌, ◌⊎◌, Bool, true, false, List, [], ◌∷◌, length, get_or, Result, Ok, Err, is_ok, refl, sym, ap, ◌∙◌, subst, arith, inl, inr, ◌||◌, IsTrue}
use Rattle.std.specs.Ordering.{is_lt, is_eq, eq_by_cmp}
use Rattle.std.specs.declared.cmp.Ordering.{Ordering}
use Rattle.std.specs.declared.cmp.Ordering.TheVariants.{Less, Equal, Greater}
use Rattle.std.specs.Cmp.{IsEquivalence, Equal-is}
use Rattle.std.specs.List.{Contains, list_any, dedup}
use Rattle.std.specs.List.Sorted.{IsStrictlySortedBy, IsPermutation, IsSorted, IsSortedBy, IsSearchInRange, IsBinarySearchResult}
use Rattle.std.specs.FinSet as set
use Rattle.std.proofs.lemmas.Cmp.{tied_itself}
use Rattle.std.proofs.lemmas.Bool.{true≢false, cases_lt, or_cases, or_left, or_right, or_from}
use Rattle.std.proofs.lemmas.List.Sorted.{IsPermutation-sym, Contains-permutation, searchable_from_sorted}
use Rattle.std.proofs.lemmas.List.Kept.{Contains-dedup, Contains-from_dedup, IsStrictlySortedBy-dedup}
use Rattle.std.proofs.lemmas.Map.Keys.{Less-from_sorted}
use Rattle.hm_tree.specs.Names.{Name, name_cmp}
use Rattle.hm_tree.proofs.Sorted.{name_total, name_one, back_less, back_greater}
use Rattle.std.proofs.Common.{All}
use Rattle.std.specs.FinSet.{contains, contains-from_list, from_list}

-- ---- what is in a list

abbrev pub tied : Name → Name → Bool
tied = eq_by_cmp name_cmp

is_equal : (o : Ordering) → is_eq o ≡ true → o ≡ Equal
is_equal Less h = absurd (true≢false (sym h))
is_equal Equal h = refl
is_equal Greater h = absurd (true≢false (sym h))

pub tied_one : (x y : Name) → tied x y ≡ true → x ≡ y
tied_one x y h = name_one x y (is_equal (name_cmp x y) h)

pub tied_self : (x : Name) → tied x x ≡ true
tied_self x = ap is_eq (tied_itself name_total x)

tied_back : (x y : Name) → tied x y ≡ true → tied y x ≡ true
tied_back x y h = subst (λ z. tied z x ≡ true) (tied_one x y h) (tied_self x)

-- two tests of which each implies the other are equal
pub same_bool : (a b : Bool) → (a ≡ true → b ≡ true) → (b ≡ true → a ≡ true) → a ≡ b
same_bool true b f g = sym (f refl)
same_bool false true f g = g refl
same_bool false false f g = refl

any_at : (q : Name) (xs : List Name) → Contains xs q → list_any (tied q) xs ≡ true
any_at q [] h = absurd (omega (arith, h.1))
any_at q (x ∷ xs) h = by h.0 h.1 h.2 (λ k lt e. any_at q xs (k, lt, e))
  where
    by : (k : ℕ) → k < suc (length xs) → get_or (x ∷ xs) k q ≡ q → ((k : ℕ) → k < length xs → get_or xs k q ≡ q → list_any (tied q) xs ≡ true)
        → list_any (tied q) (x ∷ xs) ≡ true
    by zero lt e rest = or_left (tied q x) (list_any (tied q) xs) (ap (tied q) e ∙ tied_self q)
    by (suc k) lt e rest = or_right (tied q x) (list_any (tied q) xs) (rest k (omega arith) e)

pub at_any : (q : Name) (xs : List Name) → list_any (tied q) xs ≡ true → Contains xs q
at_any q [] h = absurd (true≢false (sym h))
at_any q (x ∷ xs) h = by (or_cases (tied q x) (list_any (tied q) xs) h) (λ e. at_any q xs e)
  where
    by : (tied q x ≡ true) ⊎ (list_any (tied q) xs ≡ true) → (list_any (tied q) xs ≡ true → Contains xs q) → Contains (x ∷ xs) q
    by (inl here) rest = (0, omega arith, sym (tied_one q x here))
    by (inr later) rest = let at = rest later in (suc at.0, omega (arith, at.1), at.2)

pub same_members : (xs ys : List Name) → ((q : Name) → Contains xs q → Contains ys q) → ((q : Name) → Contains ys q → Contains xs q)
    → set.from_list {R = name_cmp} xs ≡ set.from_list ys
same_members xs ys to from =
    set.same_set name_total name_one (set.from_list xs) (set.from_list ys)
    (λ q. set.contains-from_list name_total xs q ∙ same_bool (list_any (tied q) xs) (list_any (tied q) ys)
    (λ h. any_at q ys (to q (at_any q xs h))) (λ h. any_at q xs (from q (at_any q ys h))) ∙ sym (set.contains-from_list name_total ys q))

-- ---- a list that is sorted and has its doubles dropped

tied_equivalence : IsEquivalence tied
tied_equivalence = record {
  refl = tied_self;
  symm = λ x y. same_bool (tied x y) (tied y x) (tied_back x y) (tied_back y x);
  congr = λ x y z h. ap (λ w. tied w z) (tied_one x y h);
}

pub sorted_once : (xs : List Name) → IsSorted name_cmp xs → IsStrictlySortedBy name_cmp (dedup tied xs)
sorted_once xs h = IsStrictlySortedBy-dedup name_total (λ x y. refl) xs h

pub set_of_sorted : (xs ys : List Name) → IsPermutation xs ys → set.from_list {R = name_cmp} (dedup tied ys) ≡ set.from_list xs
set_of_sorted xs ys p = same_members (dedup tied ys) xs
    (λ q h. Contains-permutation ys xs q (IsPermutation-sym xs ys p) (Contains-from_dedup tied ys q h))
    (λ q h. Contains-dedup tied_equivalence tied_one ys q (Contains-permutation xs ys q p h))

-- ---- searching

rising : (xs : List Name) → IsStrictlySortedBy name_cmp xs → IsSortedBy (λ a b. is_lt (name_cmp a b)) xs
rising xs h k d low high = ap is_lt (back_less _ _ (Less-from_sorted name_cmp xs k (k + 1) d h (omega arith) high))

none_any : (q : Name) (xs : List Name) → ((j : ℕ) (d : Name) → j < length xs → tied q (get_or xs j d) ≡ false) → list_any (tied q) xs ≡ false
none_any q [] h = refl
none_any q (x ∷ xs) h = or_from (tied q x) (list_any (tied q) xs) (h 0 x (omega arith)) (none_any q xs (λ j d lt. h (suc j) d (omega arith)))

pub searched_any : (q : Name) (xs : List Name) → IsStrictlySortedBy name_cmp xs → (r : Result ℕ ℕ) → IsSearchInRange r (length xs)
    → IsBinarySearchResult (λ x. name_cmp x q) xs r → is_ok r ≡ set.contains (set.from_list {R = name_cmp} xs) q
searched_any q xs h r within found = by r within found ∙ sym (set.contains-from_list name_total xs q)
  where
    by : (r : Result ℕ ℕ) → IsSearchInRange r (length xs) → IsBinarySearchResult (λ x. name_cmp x q) xs r → is_ok r ≡ list_any (tied q) xs
    by (Ok i) within found = sym (any_at q xs (i, within, name_one (get_or xs i q) q (found q)))
    by (Err i) within parted =
        let p = parted (searchable_from_sorted name_total (λ x. x) xs q (rising xs h)) in
        sym (none_any q xs (λ j d lt. elim (cases_lt j i) [
          | inl early ↦ ap is_eq (back_less q _ (p.0 j d (omega arith) early))
          | inr late ↦ ap is_eq (back_greater q _ (p.1 j d late lt))
        ]))

-- what holds of each name of a list holds of each in its set
pub of_list : (P : Name → Type 0) (names : List Name) → All P names → (k : Name) → IsTrue (contains (from_list {R = name_cmp} names) k) → P k
of_list P names all k there = among names all (sym (contains-from_list name_total names k) ∙ there)
  where
    among : (names : List Name) → All P names → list_any (eq_by_cmp name_cmp k) names ≡ true → P k
    among [] all e = let bad : ⊥ = cc in absurd bad
    among (n ∷ ns) all e = go (eq_by_cmp name_cmp k n) refl e (among ns (λ i d lt. all (suc i) d (omega (arith, lt))))
      where
        go : (tied : Bool) → eq_by_cmp name_cmp k n ≡ tied → (tied || list_any (eq_by_cmp name_cmp k) ns) ≡ true
            → (list_any (eq_by_cmp name_cmp k) ns ≡ true → P k) → P k
        go true t e rest = subst P (sym (name_one k n ((Equal-is (name_cmp k n)).0 t))) (all 0 n (omega arith))
        go false t e rest = rest e
