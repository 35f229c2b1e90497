-- What stands at places of lists.
use Rattle.std.proofs.Common.{◌≡◌, ℕ, zero, suc, ◌<◌, List, [], ◌∷◌, ◌++◌, length, slice_get, Some, All, Contains, inl, inr, refl, sym, ap, subst, ◌∙◌, arith, length-append, ◌⊎◌}
use Rattle.std.proofs.lemmas.Bool.{cases_lt}
use Rattle.std.proofs.lemmas.Option.{same_Some, slice_get_within, get_or_from_slice_get, slice_get-get_or}
use Rattle.std.proofs.lemmas.List.Elements.{All-get_or}

module _ {X : Type 0} where
  pub at_front : (xs ys : List X) (i : ℕ) → i < length xs → slice_get (xs ++ ys) i ≡ slice_get xs i
  at_front [] ys i lt = absurd (omega arith)
  at_front (x ∷ xs) ys zero lt = refl
  at_front (x ∷ xs) ys (suc i) lt = at_front xs ys i (omega arith)

  pub at_last : (xs : List X) (x : X) → slice_get (xs ++ x ∷ []) (length xs) ≡ Some x
  at_last [] x = refl
  at_last (y ∷ xs) x = at_last xs x

  -- what stands at a place of a list with one more
  pub at_push : (xs : List X) (x y : X) (i : ℕ) → slice_get (xs ++ x ∷ []) i ≡ Some y → (slice_get xs i ≡ Some y) ⊎ ((length xs ≡ i) × (x ≡ y))
  at_push xs x y i e = elim (cases_lt i (length xs)) [
    | inl less ↦ inl (sym (at_front xs (x ∷ []) i less) ∙ e)
    | inr le ↦
        let within = slice_get_within (xs ++ x ∷ []) i y e in
        let end : length xs ≡ i = omega (arith, within, length-append xs (x ∷ [])) in
        inr (end, same_Some x y (sym (at_last xs x) ∙ ap (slice_get (xs ++ x ∷ [])) end ∙ e))
  ]

  pub there : (xs : List X) (i : ℕ) → i < length xs → (x : X) × (slice_get xs i ≡ Some x)
  there [] i lt = absurd (omega arith)
  there (x ∷ xs) zero lt = (x, refl)
  there (x ∷ xs) (suc i) lt = there xs i (omega arith)

  pub all_read : (P : X → Type 0) (xs : List X) (i : ℕ) (x : X) → slice_get xs i ≡ Some x → All P xs → P x
  all_read P xs i x e all = subst P (get_or_from_slice_get xs i x x e) (All-get_or P xs i x (slice_get_within xs i x e) all)

  pub contains_at : (xs : List X) (i : ℕ) (x : X) → slice_get xs i ≡ Some x → Contains xs x
  contains_at xs i x e = (i, slice_get_within xs i x e, get_or_from_slice_get xs i x x e)

  pub place_of : (xs : List X) (x : X) → Contains xs x → (i : ℕ) × (slice_get xs i ≡ Some x)
  place_of xs x (i, lt, e) = (i, slice_get-get_or xs i x lt ∙ ap Some e)
