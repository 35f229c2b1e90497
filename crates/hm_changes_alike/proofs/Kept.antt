-- Lists: what a filter keeps, and what rises by what its elements are mapped to.
use Rattle.std.proofs.Common.{◌≡◌, ◌⊎◌, Bool, true, false, cond, List, [], ◌∷◌, ◌++◌, map, refl, sym, ap, subst, ◌∙◌, inl, inr}
use Rattle.std.specs.List.{Contains, AllByRecursion, filter}
use Rattle.std.specs.List.Sorted.{IsStrictlySortedBy}
use Rattle.std.specs.declared.cmp.Ordering.{Ordering}
use Rattle.std.specs.declared.cmp.Ordering.TheVariants.{Less}
use Rattle.std.proofs.lemmas.Bool.{true≢false}
use Rattle.std.proofs.lemmas.List.Elements.{All-contains, All-from_recursion, Contains-append_right}
use Rattle.std.proofs.lemmas.List.Kept.{IsStrictlySortedBy-filter}
use Rattle.std.proofs.lemmas.Map.Keys.{sorted_head, sorted_tail}
use Rattle.hm_changes.proofs.Lists.{contains_nothing, contains_here, contains_later, first_or_later, ascending_map}

module _ {X : Type 0} where
  pub in_filter : (p : X → Bool) (xs : List X) (x : X) → Contains (filter p xs) x → Contains xs x × (p x ≡ true)
  in_filter p [] x c = absurd (contains_nothing x c)
  in_filter p (y ∷ xs) x c = go (p y) (λ e. e) c (λ d. in_filter p xs x d)
    where
      go : (b : Bool) → (b ≡ true → p y ≡ true) → Contains (cond b (y ∷ filter p xs) (filter p xs)) x
          → (Contains (filter p xs) x → Contains xs x × (p x ≡ true)) → Contains (y ∷ xs) x × (p x ≡ true)
      go true e c rest = elim (first_or_later y (filter p xs) x c) [
        | inl same ↦ (subst (Contains (y ∷ xs)) same (contains_here y xs), subst (λ (z : X). p z ≡ true) same (e refl))
        | inr later ↦ let m = rest later in (contains_later y xs x m.0, m.1)
      ]
      go false e c rest = let m = rest c in (contains_later y xs x m.0, m.1)

  pub filter_in : (p : X → Bool) (xs : List X) (x : X) → Contains xs x → p x ≡ true → Contains (filter p xs) x
  filter_in p [] x c h = absurd (contains_nothing x c)
  filter_in p (y ∷ xs) x c h = go (p y) (λ e. e) (first_or_later y xs x c) (λ d. filter_in p xs x d h)
    where
      go : (b : Bool) → (p y ≡ true → b ≡ true) → (y ≡ x) ⊎ Contains xs x → (Contains xs x → Contains (filter p xs) x) → Contains (cond b (y ∷ filter p xs) (filter p xs)) x
      go true e (inl same) rest = subst (Contains (y ∷ filter p xs)) same (contains_here y (filter p xs))
      go true e (inr later) rest = contains_later y (filter p xs) x (rest later)
      go false e (inl same) rest = absurd (true≢false (sym (e (ap p same ∙ h))))
      go false e (inr later) rest = rest later

  -- what stands before one that stands before others is less
  pub less_than_next : (R : X → X → Ordering) (xs : List X) (y : X) (ys : List X) (x : X) → IsStrictlySortedBy R (xs ++ y ∷ ys) → Contains xs x → R x y ≡ Less
  less_than_next R [] y ys x rise c = absurd (contains_nothing x c)
  less_than_next R (z ∷ xs) y ys x rise c = elim (first_or_later z xs x c) [
    | inl same ↦ subst (λ (w : X). R w y ≡ Less) same
        (All-contains (λ w. R z w ≡ Less) (xs ++ y ∷ ys) y (All-from_recursion (λ w. R z w ≡ Less) (xs ++ y ∷ ys) (sorted_head R z (xs ++ y ∷ ys) rise))
        (Contains-append_right xs (y ∷ ys) y (contains_here y ys)))
    | inr later ↦ less_than_next R xs y ys x (sorted_tail R z (xs ++ y ∷ ys) rise) later
  ]

-- what rises by one thing of its elements rises by another
module _ {X K : Type 0} (f : X → K) (R : K → K → Ordering) (S : X → X → Ordering) where
  each_less : (x : X) (xs : List X) → ((y : X) → Contains xs y → R (f x) (f y) ≡ Less → S x y ≡ Less)
      → AllByRecursion (λ k. R (f x) k ≡ Less) (map f xs) → AllByRecursion (λ y. S x y ≡ Less) xs
  each_less x [] too h = tt
  each_less x (y ∷ xs) too h = (too y (contains_here y xs) h.0, each_less x xs (λ z c. too z (contains_later y xs z c)) h.1)

  rises_too : (xs : List X) → ((x y : X) → Contains xs x → Contains xs y → R (f x) (f y) ≡ Less → S x y ≡ Less)
      → IsStrictlySortedBy R (map f xs) → IsStrictlySortedBy S xs
  unfolding IsStrictlySortedBy
  rises_too [] too h = tt
  rises_too (x ∷ xs) too h = (
    each_less x xs (λ y c. too x y (contains_here x xs) (contains_later x xs y c)) h.0,
    rises_too xs (λ y z c d. too y z (contains_later x xs y c) (contains_later x xs z d)) h.1,
  )

-- some of its elements, mapped
pub rises_mapped : {X K Y : Type 0} (f : X → K) (R : K → K → Ordering) (g : X → Y) (S : Y → Y → Ordering) (p : X → Bool) (xs : List X)
    → ((x y : X) → Contains xs x → Contains xs y → R (f x) (f y) ≡ Less → S (g x) (g y) ≡ Less)
    → IsStrictlySortedBy R (map f xs) → IsStrictlySortedBy S (map g (filter p xs))
rises_mapped f R g S p xs too h =
    ascending_map g (λ x y. S (g x) (g y)) S (λ x y less. less) (filter p xs)
    (IsStrictlySortedBy-filter (λ x y. S (g x) (g y)) p xs (rises_too f R (λ x y. S (g x) (g y)) xs too h))
