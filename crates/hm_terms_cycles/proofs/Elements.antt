-- What stands at a place of a list, and the first elements with one more.
use Rattle.std.proofs.Common.{◌≡◌, ℕ, zero, suc, ◌+◌, ◌<◌, List, [], ◌∷◌, ◌++◌, length, get_or, take, Some, slice_get, refl, sym, ap, ◌∙◌, arith}
use Rattle.std.proofs.lemmas.List.{take_more}

module _ {X : Type 0} where
  pub some_within : (xs : List X) (k : ℕ) → k < length xs → (x : X) × (slice_get xs k ≡ Some x)
  some_within [] k lt = absurd (omega (arith, lt))
  some_within (x ∷ xs) zero lt = (x, refl)
  some_within (x ∷ xs) (suc k) lt = some_within xs k (omega (arith, lt))

  pub slice_front : (xs ys : List X) (k : ℕ) → k < length xs → slice_get (xs ++ ys) k ≡ slice_get xs k
  slice_front [] ys k lt = absurd (omega (arith, lt))
  slice_front (x ∷ xs) ys zero lt = refl
  slice_front (x ∷ xs) ys (suc k) lt = slice_front xs ys k (omega (arith, lt))

  pub slice_seam : (xs : List X) (y : X) → slice_get (xs ++ y ∷ []) (length xs) ≡ Some y
  slice_seam [] y = refl
  slice_seam (x ∷ xs) y = slice_seam xs y

  pub take_next : (xs : List X) (i : ℕ) (x : X) → i < length xs → x ≡ get_or xs i x → take (i + 1) xs ≡ take i xs ++ x ∷ []
  take_next xs i x lt is = take_more xs i x lt ∙ ap (λ x. take i xs ++ x ∷ []) (sym is)
