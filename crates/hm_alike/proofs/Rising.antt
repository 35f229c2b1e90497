-- Lists of names that ascend, and the first names of lists.
use Rattle.std.proofs.Common.{◌≡◌, ◌≢◌, ℕ, zero, suc, Bool, List, [], ◌∷◌, ◌++◌, All, filter, map, take, refl, Less}
use Rattle.std.specs.declared.cmp.Ordering.{Ordering}
use Rattle.std.specs.List.{AllByRecursion}
use Rattle.std.specs.List.Sorted.{IsStrictlySortedBy}
use Rattle.std.proofs.lemmas.List.Elements.{All-nil, All-cons, All-head, All-tail, All-push, All-take, All-contains, Contains-push, All-from_recursion, recursion_from_All}
use Rattle.std.proofs.lemmas.List.Kept.{IsStrictlySortedBy-filter}
use Rattle.std.proofs.lemmas.Map.Keys.{sorted_head, sorted_tail}
use Rattle.hm_tree.specs.Names.{Name}
use Rattle.hm_alike.specs.Alike.{first_name}

module _ {K : Type 0} (c : K → K → Ordering) where
  sorted-cons : (x : K) (xs : List K) → All (λ y. c x y ≡ Less) xs → IsStrictlySortedBy c xs → IsStrictlySortedBy c (x ∷ xs)
  unfolding IsStrictlySortedBy
  sorted-cons x xs all s = (recursion_from_All (λ y. c x y ≡ Less) xs all, s)

  sorted-nil : IsStrictlySortedBy c []
  unfolding IsStrictlySortedBy
  sorted-nil = tt

  least : (x : K) (xs : List K) → IsStrictlySortedBy c (x ∷ xs) → All (λ y. c x y ≡ Less) xs
  least x xs s = All-from_recursion (λ y. c x y ≡ Less) xs (sorted_head c x xs s)

  pub sorted-none : IsStrictlySortedBy c []
  sorted-none = sorted-nil

  -- one more behind those that are less
  pub sorted-push : (xs : List K) (y : K) → IsStrictlySortedBy c xs → All (λ x. c x y ≡ Less) xs → IsStrictlySortedBy c (xs ++ y ∷ [])
  sorted-push [] y s all = sorted-cons y [] (All-nil (λ z. c y z ≡ Less)) sorted-nil
  sorted-push (x ∷ xs) y s all =
      sorted-cons x (xs ++ y ∷ []) (All-push (λ z. c x z ≡ Less) xs y (least x xs s) (All-head (λ z. c z y ≡ Less) x xs all))
      (sorted-push xs y (sorted_tail c x xs s) (All-tail (λ z. c z y ≡ Less) x xs all))

  -- all are less than the last
  pub sorted-last : (xs : List K) (y : K) → IsStrictlySortedBy c (xs ++ y ∷ []) → All (λ x. c x y ≡ Less) xs
  sorted-last [] y s = All-nil (λ x. c x y ≡ Less)
  sorted-last (x ∷ xs) y s =
      All-cons (λ x. c x y ≡ Less) x xs
      (All-contains (λ z. c x z ≡ Less) (xs ++ y ∷ []) y (least x (xs ++ y ∷ []) s) (Contains-push xs y))
      (sorted-last xs y (sorted_tail c x (xs ++ y ∷ []) s))

  pub sorted-take : (n : ℕ) (xs : List K) → IsStrictlySortedBy c xs → IsStrictlySortedBy c (take n xs)
  sorted-take zero xs s = sorted-nil
  sorted-take (suc n) [] s = sorted-nil
  sorted-take (suc n) (x ∷ xs) s =
      sorted-cons x (take n xs) (All-take (λ y. c x y ≡ Less) n xs (least x xs s)) (sorted-take n xs (sorted_tail c x xs s))

  module _ {L : Type 0} (f : L → K) where
    kept_mapped : (P : K → Type 0) (xs : List L) → AllByRecursion P (map f xs) → AllByRecursion (λ x. P (f x)) xs
    kept_mapped P [] h = h
    kept_mapped P (x ∷ xs) h = (h.0, kept_mapped P xs h.1)

    mapped_kept : (P : K → Type 0) (xs : List L) → AllByRecursion (λ x. P (f x)) xs → AllByRecursion P (map f xs)
    mapped_kept P [] h = h
    mapped_kept P (x ∷ xs) h = (h.0, mapped_kept P xs h.1)

    from_map : (xs : List L) → IsStrictlySortedBy c (map f xs) → IsStrictlySortedBy (λ a b. c (f a) (f b)) xs
    unfolding IsStrictlySortedBy
    from_map [] s = s
    from_map (x ∷ xs) s = (kept_mapped (λ y. c (f x) y ≡ Less) xs s.0, from_map xs s.1)

    to_map : (xs : List L) → IsStrictlySortedBy (λ a b. c (f a) (f b)) xs → IsStrictlySortedBy c (map f xs)
    unfolding IsStrictlySortedBy
    to_map [] s = s
    to_map (x ∷ xs) s = (mapped_kept (λ y. c (f x) y ≡ Less) xs s.0, to_map xs s.1)

    -- some are dropped
    pub sorted-filter : (p : L → Bool) (xs : List L) → IsStrictlySortedBy c (map f xs) → IsStrictlySortedBy c (map f (filter p xs))
    sorted-filter p xs s = to_map (filter p xs) (IsStrictlySortedBy-filter (λ a b. c (f a) (f b)) p xs (from_map xs s))

-- ---- the first of some names

pub some-push : (xs : List Name) (y : Name) → xs ++ y ∷ [] ≢ []
some-push [] y e = let no : ⊥ = cc in no
some-push (x ∷ xs) y e = let no : ⊥ = cc in no

pub some-append : (xs ys : List Name) → xs ≢ [] → xs ++ ys ≢ []
some-append [] ys some = absurd (some refl)
some-append (x ∷ xs) ys some = λ e. let no : ⊥ = cc in no

pub first_name-append : (xs ys : List Name) → xs ≢ [] → first_name (xs ++ ys) ≡ first_name xs
first_name-append [] ys some = absurd (some refl)
first_name-append (x ∷ xs) ys some = refl

pub first_name-has : (P : Name → Type 0) (xs : List Name) → xs ≢ [] → All P xs → P (first_name xs)
first_name-has P [] some all = absurd (some refl)
first_name-has P (x ∷ xs) some all = All-head P x xs all
