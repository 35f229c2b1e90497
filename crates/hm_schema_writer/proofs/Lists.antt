-- Elements of lists that are put together, cut or mapped.
use Rattle.std.proofs.Common.{◌≡◌, ◌⊎◌, inl, inr, ℕ, zero, suc, ◌+◌, ◌<◌, All, List, [], ◌∷◌, ◌++◌, length, map, Some, refl, sym, ap, subst, ◌∙◌, arith, slice_get, take, drop}
use Rattle.std.proofs.lemmas.Option.{same_Some, slice_get_within, get_or_from_slice_get}

-- ---- two lists

pub nil_plus : (n : ℕ) → 0 + n ≡ n
nil_plus n = omega arith

pub suc_plus : (m n : ℕ) → suc m + n ≡ suc (m + n)
suc_plus m n = omega arith

module _ {X : Type 0} where
  pub drop_past : (xs ys : List X) (i : ℕ) → drop (length xs + i) (xs ++ ys) ≡ drop i ys
  drop_past [] ys i = ap (λ z. drop z ys) (nil_plus i)
  drop_past (x ∷ xs) ys i = ap (λ z. drop z (x ∷ (xs ++ ys))) (suc_plus (length xs) i) ∙ drop_past xs ys i

  pub take_past : (xs ys : List X) (i : ℕ) → take (length xs + i) (xs ++ ys) ≡ xs ++ take i ys
  take_past [] ys i = ap (λ z. take z ys) (nil_plus i)
  take_past (x ∷ xs) ys i = ap (λ z. take z (x ∷ (xs ++ ys))) (suc_plus (length xs) i) ∙ ap (λ z. x ∷ z) (take_past xs ys i)

  pub get_past : (xs ys : List X) (i : ℕ) → slice_get (xs ++ ys) (length xs + i) ≡ slice_get ys i
  get_past [] ys i = ap (slice_get ys) (nil_plus i)
  get_past (x ∷ xs) ys i = ap (slice_get (x ∷ (xs ++ ys))) (suc_plus (length xs) i) ∙ get_past xs ys i

  pub get_front : (xs ys : List X) (i : ℕ) (x : X) → slice_get xs i ≡ Some x → slice_get (xs ++ ys) i ≡ Some x
  get_front [] ys i x is = let f : ⊥ = cc in absurd f
  get_front (y ∷ xs) ys zero x is = is
  get_front (y ∷ xs) ys (suc i) x is = get_front xs ys i x is

  abbrev pub IsInEither : List X → List X → ℕ → X → Type 0
  IsInEither xs ys i x = (slice_get xs i ≡ Some x) ⊎ ((j : ℕ) × (i ≡ length xs + j) × (slice_get ys j ≡ Some x))

  pub in_either : (xs ys : List X) (i : ℕ) (x : X) → slice_get (xs ++ ys) i ≡ Some x → IsInEither xs ys i x
  in_either [] ys i x is = inr (i, sym (nil_plus i), is)
  in_either (y ∷ xs) ys zero x is = inl is
  in_either (y ∷ xs) ys (suc i) x is = further (in_either xs ys i x is)
    where
      further : IsInEither xs ys i x → IsInEither (y ∷ xs) ys (suc i) x
      further (inl here) = inl here
      further (inr b) = inr (b.0, ap suc b.1 ∙ sym (suc_plus (length xs) b.0), b.2)

pub mapped : {X Y : Type 0} (f : X → Y) (xs : List X) (m : ℕ) (y : Y) → slice_get (map f xs) m ≡ Some y → (x : X) × (slice_get xs m ≡ Some x) × (f x ≡ y)
mapped f [] m y is = let g : ⊥ = cc in absurd g
mapped f (x ∷ xs) zero y is = (x, refl, same_Some (f x) y is)
mapped f (x ∷ xs) (suc m) y is = mapped f xs m y is

pub map_at : {X Y : Type 0} (f : X → Y) (xs : List X) (m : ℕ) (x : X) → slice_get xs m ≡ Some x → slice_get (map f xs) m ≡ Some (f x)
map_at f [] m x is = let g : ⊥ = cc in absurd g
map_at f (y ∷ xs) zero x is = ap (λ z. Some (f z)) (same_Some y x is)
map_at f (y ∷ xs) (suc m) x is = map_at f xs m x is

-- ---- one list

pub all_at : {X : Type 0} (P : X → Type 0) (xs : List X) → All P xs → (k : ℕ) (x : X) → slice_get xs k ≡ Some x → P x
all_at P xs all k x is = subst P (get_or_from_slice_get xs k x x is) (all k x (slice_get_within xs k x is))

pub in_take : {X : Type 0} (xs : List X) (i m : ℕ) (x : X) → slice_get (take i xs) m ≡ Some x → (m < i) × (slice_get xs m ≡ Some x)
in_take [] zero m x is = let f : ⊥ = cc in absurd f
in_take [] (suc i) m x is = let f : ⊥ = cc in absurd f
in_take (y ∷ xs) zero m x is = let f : ⊥ = cc in absurd f
in_take (y ∷ xs) (suc i) zero x is = (omega arith, is)
in_take (y ∷ xs) (suc i) (suc m) x is = let r = in_take xs i m x is in (omega (arith, r.0), r.1)
