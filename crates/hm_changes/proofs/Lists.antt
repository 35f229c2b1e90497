-- Lists: what a map of a list contains, and when two lists ascend one behind the other.
use Rattle.std.proofs.Common.{◌≡◌, ◌⊎◌, ℕ, zero, suc, ◌<◌, List, [], ◌∷◌, ◌++◌, map, length, get_or, refl, sym, ap, arith, inl, inr}
use Rattle.std.specs.List.{Contains, AllByRecursion}
use Rattle.std.specs.List.Sorted.{IsStrictlySortedBy}
use Rattle.std.specs.declared.cmp.Ordering.{Ordering}
use Rattle.std.specs.declared.cmp.Ordering.TheVariants.{Less}

module _ {X : Type 0} where
  pub contains_nothing : (x : X) → Contains [] x → ⊥
  contains_nothing x c = let lt = c.1 in omega arith

  pub contains_here : (x : X) (xs : List X) → Contains (x ∷ xs) x
  contains_here x xs = (0, omega arith, refl)

  pub contains_later : (y : X) (ys : List X) (x : X) → Contains ys x → Contains (y ∷ ys) x
  contains_later y ys x c = (suc c.0, omega (arith, c.1), c.2)

  pub first_or_later : (y : X) (ys : List X) (x : X) → Contains (y ∷ ys) x → (y ≡ x) ⊎ Contains ys x
  first_or_later y ys x c = by c.0 c.1 c.2
    where
      by : (k : ℕ) → k < suc (length ys) → get_or (y ∷ ys) k x ≡ x → (y ≡ x) ⊎ Contains ys x
      by zero lt e = inl e
      by (suc k) lt e = inr (k, omega arith, e)

  all_contained : (P : X → Type 0) (xs : List X) → ((x : X) → Contains xs x → P x) → AllByRecursion P xs
  all_contained P [] h = tt
  all_contained P (x ∷ xs) h = (h x (contains_here x xs), all_contained P xs (λ y c. h y (contains_later x xs y c)))

  all_append : (P : X → Type 0) (xs ys : List X) → AllByRecursion P xs → AllByRecursion P ys → AllByRecursion P (xs ++ ys)
  all_append P [] ys a b = b
  all_append P (x ∷ xs) ys a b = (a.0, all_append P xs ys a.1 b)

  -- where each of one list is less than each of another, both in a row ascend
  pub ascending_append : (R : X → X → Ordering) (xs ys : List X) → IsStrictlySortedBy R xs → IsStrictlySortedBy R ys
      → ((x y : X) → Contains xs x → Contains ys y → R x y ≡ Less) → IsStrictlySortedBy R (xs ++ ys)
  unfolding IsStrictlySortedBy
  ascending_append R [] ys a b less = b
  ascending_append R (x ∷ xs) ys a b less = (
    all_append (λ y. R x y ≡ Less) xs ys a.0 (all_contained (λ y. R x y ≡ Less) ys (λ y c. less x y (contains_here x xs) c)),
    ascending_append R xs ys a.1 b (λ z y c d. less z y (contains_later x xs z c) d),
  )

module _ {X Y : Type 0} (f : X → Y) where
  pub contains_map : (xs : List X) (x : X) → Contains xs x → Contains (map f xs) (f x)
  contains_map [] x c = absurd (contains_nothing x c)
  contains_map (y ∷ xs) x c = elim (first_or_later y xs x c) [
    | inl e ↦ (0, omega arith, ap f e)
    | inr later ↦ contains_later (f y) (map f xs) (f x) (contains_map xs x later)
  ]

  pub map_contains : (xs : List X) (y : Y) → Contains (map f xs) y → (x : X) × (y ≡ f x) × Contains xs x
  map_contains [] y c = absurd (contains_nothing y c)
  map_contains (x ∷ xs) y c = elim (first_or_later (f x) (map f xs) y c) [
    | inl e ↦ (x, sym e, contains_here x xs)
    | inr later ↦ let r = map_contains xs y later in (r.0, r.1, contains_later x xs r.0 r.2)
  ]

  all_map : (P : X → Type 0) (Q : Y → Type 0) → ((x : X) → P x → Q (f x)) → (xs : List X) → AllByRecursion P xs → AllByRecursion Q (map f xs)
  all_map P Q h [] a = tt
  all_map P Q h (x ∷ xs) a = (h x a.0, all_map P Q h xs a.1)

  pub ascending_map : (R : X → X → Ordering) (S : Y → Y → Ordering) → ((x y : X) → R x y ≡ Less → S (f x) (f y) ≡ Less) → (xs : List X)
      → IsStrictlySortedBy R xs → IsStrictlySortedBy S (map f xs)
  unfolding IsStrictlySortedBy
  ascending_map R S h [] a = tt
  ascending_map R S h (x ∷ xs) a = (all_map (λ y. R x y ≡ Less) (λ y. S (f x) y ≡ Less) (λ y less. h x y less) xs a.0, ascending_map R S h xs a.1)

  pub map_append : (xs ys : List X) → map f (xs ++ ys) ≡ map f xs ++ map f ys
  map_append [] ys = refl
  map_append (x ∷ xs) ys = ap (λ l. f x ∷ l) (map_append xs ys)
