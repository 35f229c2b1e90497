-- Facts on lists.
use Rattle.std.proofs.Common.{◌≡◌, ℕ, zero, suc, List, [], ◌∷◌, ◌++◌, length, slice_get, take, drop, Some, All, refl, sym, ap, subst, arith}
use Rattle.std.proofs.lemmas.Option.{same_Some, none-some}
use Rattle.std.proofs.lemmas.List.Elements.{All-tail}

-- of two first ones that aren't such, the places are one
pub first_break : {X : Type 0} (P : X → Type 0) (xs ys : List X) (x y : X) (us vs : List X) → xs ++ x ∷ us ≡ ys ++ y ∷ vs
    → All P xs → ¬ (P x) → All P ys → ¬ (P y) → length xs ≡ length ys
first_break P [] [] x y us vs e all breaks others ends = refl
first_break P [] (z ∷ ys) x y us vs e all breaks others ends =
    let same : x ≡ z = cc in absurd (breaks (subst P (sym same) (others 0 z (omega arith))))
first_break P (z ∷ xs) [] x y us vs e all breaks others ends =
    let same : z ≡ y = cc in absurd (ends (subst P same (all 0 z (omega arith))))
first_break P (z ∷ xs) (w ∷ ys) x y us vs e all breaks others ends =
    let rest : xs ++ x ∷ us ≡ ys ++ y ∷ vs = cc in
    ap suc (first_break P xs ys x y us vs rest (λ k d lt. all (suc k) d (omega (arith, lt))) breaks (λ k d lt. others (suc k) d (omega (arith, lt))) ends)

-- where all are such, none breaks
pub no_break : {X : Type 0} (P : X → Type 0) (xs us : List X) (x : X) → All P (xs ++ x ∷ us) → P x
no_break P [] us x all = all 0 x (omega arith)
no_break P (z ∷ xs) us x all = no_break P xs us x (λ k d lt. all (suc k) d (omega (arith, lt)))

pub split_at : {X : Type 0} (n : ℕ) (xs : List X) (x : X) → slice_get xs n ≡ Some x → xs ≡ take n xs ++ x ∷ drop (suc n) xs
split_at n [] x e = absurd (none-some x e)
split_at zero (y ∷ xs) x e = ap (λ z. z ∷ xs) (same_Some y x e)
split_at (suc n) (y ∷ xs) x e = ap (λ l. y ∷ l) (split_at n xs x e)

pub behind : {X : Type 0} (P : X → Type 0) (xs ys : List X) → All P (xs ++ ys) → All P ys
behind P [] ys all = all
behind P (x ∷ xs) ys all = behind P xs ys (All-tail P x (xs ++ ys) all)

pub no_items : {X : Type 0} (xs : List X) → length xs ≡ 0 → xs ≡ []
no_items [] e = refl
no_items (x ∷ xs) e = absurd (omega arith)
