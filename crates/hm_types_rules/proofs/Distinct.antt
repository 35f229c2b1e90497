-- A list of the elements of another, each once, has the same elements, and what some element of one passes some of the other does.
use Rattle.std.proofs.Common.{◌≡◌, ◌⊎◌, zero, suc, Bool, true, false, List, [], ◌∷◌, ◌++◌, Contains, refl, sym, subst, ◌∙◌, arith, inl, inr}
use mathlib.Core.Bool.{true≢false}
use Rattle.std.specs.List.{list_any}
use Rattle.std.proofs.lemmas.List.Folds.{Any-from_list_any, list_any-from_Any}
use Rattle.hm_schema.specs.Sameness.{HaveEqual}
use Rattle.hm_types_rules.specs.Numbering.{IsDistinct, none_left, repeated, new}

module _ {X : Type 0} where
  in_end : (xs : List X) (x : X) → Contains (xs ++ x ∷ []) x
  in_end [] x = (0, omega arith, refl)
  in_end (y ∷ xs) x = let h = in_end xs x in (suc h.0, (let lt = h.1 in omega arith), h.2)

  in_more : (xs : List X) (x y : X) → Contains xs y → Contains (xs ++ x ∷ []) y
  in_more [] x y (i, lt, e) = absurd (omega arith)
  in_more (z ∷ xs) x y (zero, lt, e) = (0, omega arith, e)
  in_more (z ∷ xs) x y (suc i, lt, e) = let h = in_more xs x y (i, omega arith, e) in (suc h.0, (let lt = h.1 in omega arith), h.2)

  from_more : (xs : List X) (x y : X) → Contains (xs ++ x ∷ []) y → Contains xs y ⊎ (x ≡ y)
  from_more [] x y (zero, lt, e) = inr e
  from_more [] x y (suc i, lt, e) = absurd (omega arith)
  from_more (z ∷ xs) x y (zero, lt, e) = inl (0, omega arith, e)
  from_more (z ∷ xs) x y (suc i, lt, e) = elim (from_more xs x y (i, omega arith, e)) [
    | inl h ↦ inl (suc h.0, (let lt = h.1 in omega arith), h.2)
    | inr h ↦ inr h
  ]

  in_rest : (z : X) (xs : List X) (y : X) → Contains xs y → Contains (z ∷ xs) y
  in_rest z xs y (i, lt, e) = (suc i, omega arith, e)

  head_or_rest : (z : X) (xs : List X) (y : X) → Contains (z ∷ xs) y → (z ≡ y) ⊎ Contains xs y
  head_or_rest z xs y (zero, lt, e) = inl e
  head_or_rest z xs y (suc i, lt, e) = inr (i, omega arith, e)

  distinct_from : {seen xs ys : List X} → IsDistinct seen xs ys → (y : X) → Contains ys y → Contains xs y
  distinct_from none_left y c = c
  distinct_from (repeated {x = x} {xs = xs} d h) y c = in_rest x xs y (distinct_from h y c)
  distinct_from (new {x = x} {xs = xs} {ys = ys} n h) y c = elim (head_or_rest x ys y c) [
    | inl e ↦ (0, omega arith, e)
    | inr i ↦ in_rest x xs y (distinct_from h y i)
  ]

  distinct_to : {seen xs ys : List X} → IsDistinct seen xs ys → (y : X) → Contains xs y → Contains seen y ⊎ Contains ys y
  distinct_to none_left y c = inr c
  distinct_to (repeated {x = x} {seen = seen} {xs = xs} d h) y c = elim (head_or_rest x xs y c) [
    | inl e ↦ inl (subst (Contains seen) e d)
    | inr i ↦ distinct_to h y i
  ]
  distinct_to (new {x = x} {seen = seen} {xs = xs} {ys = ys} n h) y c = elim (head_or_rest x xs y c) [
    | inl e ↦ inr (0, omega arith, e)
    | inr i ↦ elim (distinct_to h y i) [
      | inl s ↦ elim (from_more seen x y s) [ inl s ↦ inl s | inr e ↦ inr (0, omega arith, e) ]
      | inr o ↦ inr (in_rest x ys y o)
    ]
  ]

  pub distinct_equal : (xs ys : List X) → IsDistinct [] xs ys → HaveEqual xs ys
  distinct_equal xs ys d = λ x. (
    λ c. elim (distinct_to d x c) [ inl s ↦ absurd (nowhere s) | inr o ↦ o ],
    λ c. distinct_from d x c,
  )
    where
      nowhere : {x : X} → Contains [] x → ⊥
      nowhere (i, lt, e) = omega arith

-- a test that some element passes, in two lists with the same elements
pub any_equal : {X : Type 0} (p : X → Bool) (xs ys : List X) → HaveEqual xs ys → list_any p xs ≡ list_any p ys
any_equal {X} p xs ys h = go (list_any p xs) refl (list_any p ys) refl
  where
    over : (cs ds : List X) → ((x : X) → Contains cs x → Contains ds x) → list_any p cs ≡ true → list_any p ds ≡ true
    over cs ds f e =
        let a = Any-from_list_any p cs e in
        let c = f a.1 (a.0, a.2, a.3) in
        list_any-from_Any p ds (c.0, a.1, c.1, c.2, a.4)

    go : (a : Bool) → list_any p xs ≡ a → (b : Bool) → list_any p ys ≡ b → a ≡ b
    go true e true f = refl
    go false e false f = refl
    go true e false f = absurd (true≢false (sym (over xs ys (λ x. (h x).0) e) ∙ f))
    go false e true f = absurd (true≢false (sym (over ys xs (λ x. (h x).1) f) ∙ e))
