-- What stands at a place of a list, and of a list with more behind it, and the item of a list of one.
use Rattle.std.proofs.Common.{◌≡◌, ℕ, zero, suc, ◌+◌, ◌<◌, List, [], ◌∷◌, ◌++◌, length, get_or, slice_get, Some, refl, sym, ap, arith}

module _ {X : Type 0} where
  pub at_front : (xs ys : List X) (i : ℕ) → i < length xs → slice_get (xs ++ ys) i ≡ slice_get xs i
  at_front [] ys i lt = absurd (omega arith)
  at_front (x ∷ xs) ys zero lt = refl
  at_front (x ∷ xs) ys (suc i) lt = at_front xs ys i (omega arith)

  pub at_behind : (xs ys : List X) (i : ℕ) → slice_get (xs ++ ys) (length xs + i) ≡ slice_get ys i
  at_behind [] ys i = let e : 0 + i ≡ i = omega arith in rw e refl
  at_behind (x ∷ xs) ys i = let e : suc (length xs) + i ≡ suc (length xs + i) = omega arith in rw e (at_behind xs ys i)

  pub at_last : (xs : List X) (x : X) → slice_get (xs ++ x ∷ []) (length xs) ≡ Some x
  at_last [] x = refl
  at_last (y ∷ xs) x = at_last xs x

  pub there : (xs : List X) (i : ℕ) → i < length xs → (x : X) × (slice_get xs i ≡ Some x)
  there [] i lt = absurd (omega arith)
  there (x ∷ xs) zero lt = (x, refl)
  there (x ∷ xs) (suc i) lt = there xs i (omega arith)

  -- the one item of a list
  pub read_one : (xs : List X) (x : X) → length xs ≡ 1 → x ≡ get_or xs 0 x → xs ≡ x ∷ []
  read_one [] x e h = absurd (omega arith)
  read_one (y ∷ []) x e h = ap (λ y. y ∷ []) (sym h)
  read_one (y ∷ z ∷ xs) x e h = absurd (omega arith)
