-- That something holds of an element of a list that comes of others: of their ends, of a mapped and of a filtered list.
use Rattle.std.proofs.Common.{◌<◌, length, arith, ◌≡◌, ◌⊎◌, Bool, true, false, cond, IsTrue, List, [], ◌∷◌, ◌++◌, map, All, Any, refl, inl, inr}
use Rattle.std.proofs.lemmas.List.Elements.{All-head, All-map, All-contains_itself}
use Rattle.std.specs.List.{filter}
use Rattle.hm_schema.proofs.Elements.{Holds, at_head, in_tail, holds_from, holds_to, holds_left, holds_right, holds_split, any_of}

module _ {X : Type 0} (P : X → Type 0) where
  pub any_left : (xs ys : List X) → Any P xs → Any P (xs ++ ys)
  any_left xs ys h = holds_to P (holds_left P ys (holds_from P xs h))

  pub any_right : (xs ys : List X) → Any P ys → Any P (xs ++ ys)
  any_right xs ys h = holds_to P (holds_right P xs (holds_from P ys h))

  pub any_split : (xs ys : List X) → Any P (xs ++ ys) → Any P xs ⊎ Any P ys
  any_split xs ys h = elim (holds_split P xs ys (holds_from P (xs ++ ys) h)) [ inl g ↦ inl (holds_to P g) | inr g ↦ inr (holds_to P g) ]

-- ---- a list that is mapped

module _ {X Y : Type 0} (P : Y → Type 0) (f : X → Y) where
  holds_mapped : {xs : List X} → Holds (λ x. P (f x)) xs → Holds P (map f xs)
  holds_mapped (at_head h) = at_head h
  holds_mapped (in_tail h) = in_tail (holds_mapped h)

  mapped_holds : (xs : List X) → Holds P (map f xs) → Holds (λ x. P (f x)) xs
  mapped_holds [] h = elim h [ ]
  mapped_holds (x ∷ xs) (at_head h) = at_head h
  mapped_holds (x ∷ xs) (in_tail h) = in_tail (mapped_holds xs h)

  pub any_mapped : (xs : List X) → Any (λ x. P (f x)) xs → Any P (map f xs)
  any_mapped xs h = holds_to P (holds_mapped (holds_from (λ x. P (f x)) xs h))

  pub mapped_any : (xs : List X) → Any P (map f xs) → Any (λ x. P (f x)) xs
  mapped_any xs h = holds_to (λ x. P (f x)) (mapped_holds xs (holds_from P (map f xs) h))

-- each element is related to one of the mapped list, and each of these to one of the list
module _ {X Y : Type 0} (R : X → Y → Type 0) (f : X → Y) (xs : List X) (each : All (λ x. R x (f x)) xs) where
  pub mapped_to : All (λ x. Any (R x) (map f xs)) xs
  mapped_to k x lt = any_mapped (R _) f xs (any_of (λ z. R _ (f z)) xs _ (All-contains_itself xs k x lt) (each k x lt))

  pub mapped_from : All (λ y. Any (λ x. R x y) xs) (map f xs)
  mapped_from = All-map (λ y. Any (λ x. R x y) xs) f xs (λ k x lt. any_of (λ z. R z (f _)) xs _ (All-contains_itself xs k x lt) (each k x lt))

-- ---- a list that is filtered

module _ {X : Type 0} (P : X → Type 0) (p : X → Bool) where
  abbrev Passes : X → Type 0
  Passes x = IsTrue (p x) × P x

  holds_filtered : (xs : List X) → Holds Passes xs → Holds P (filter p xs)
  holds_filtered [] h = elim h [ ]
  holds_filtered (x ∷ xs) (at_head h) = rw h.0 (at_head h.1)
  holds_filtered (x ∷ xs) (in_tail h) = go (p x) (holds_filtered xs h)
    where
      go : (b : Bool) → Holds P (filter p xs) → Holds P (cond b (x ∷ filter p xs) (filter p xs))
      go true g = in_tail g
      go false g = g

  filtered_holds : (xs : List X) → Holds P (filter p xs) → Holds Passes xs
  filtered_holds [] h = elim h [ ]
  filtered_holds (x ∷ xs) h = go (p x) refl h (filtered_holds xs)
    where
      go : (b : Bool) → p x ≡ b → Holds P (cond b (x ∷ filter p xs) (filter p xs)) → (Holds P (filter p xs) → Holds Passes xs) → Holds Passes (x ∷ xs)
      go true e (at_head h) rest = at_head (e, h)
      go true e (in_tail h) rest = in_tail (rest h)
      go false e h rest = in_tail (rest h)

  pub any_filtered : (xs : List X) → Any Passes xs → Any P (filter p xs)
  any_filtered xs h = holds_to P (holds_filtered xs (holds_from Passes xs h))

  pub filtered_any : (xs : List X) → Any P (filter p xs) → Any Passes xs
  filtered_any xs h = holds_to Passes (filtered_holds xs (holds_from P (filter p xs) h))

-- ---- a list with an element

pub all_some : {X : Type 0} (P : X → Type 0) (xs : List X) → 0 < length xs → All P xs → (x : X) × P x
all_some P [] lt all = absurd (omega arith)
all_some P (x ∷ xs) lt all = (x, All-head P x xs all)

pub mapped_some : {X Y : Type 0} (f : X → Y) (xs : List X) → 0 < length xs → 0 < length (map f xs)
mapped_some f [] lt = absurd (omega arith)
mapped_some f (x ∷ xs) lt = omega arith
