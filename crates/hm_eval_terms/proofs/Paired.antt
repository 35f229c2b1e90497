-- Two lists of one length, and a relation at each place.
use Rattle.std.proofs.Common.{◌≡◌, ℕ, zero, suc, List, [], ◌∷◌, ◌++◌, Some, length, slice_get, sym, subst, ap, ◌∙◌, map-id, take}
use Rattle.std.proofs.lemmas.Option.{same_Some, none-some, slice_get_read}
use Rattle.std.proofs.lemmas.Iterator.{YieldsList}
use Rattle.std.proofs.lemmas.Iterator.Consumers.{YieldsList-end, YieldsList-turn, YieldsList-so_far}
use Rattle.std.specs.Iterator.{Yields}
use Rattle.std.proofs.Common.{Option, None, refl}

pub data Paired {X Y : Type 0} (R : X → Y → Type 0) : List X → List Y → Type 0 where
  no_more : Paired R [] []
  one_more : {x : X} {y : Y} {xs : List X} {ys : List Y} → R x y → Paired R xs ys → Paired R (x ∷ xs) (y ∷ ys)

module _ {X Y : Type 0} {R : X → Y → Type 0} where
  pub none_paired : (ys : List Y) → ys ≡ [] → Paired R [] ys
  none_paired ys e = subst (Paired R []) (sym e) no_more

  pair_last : {xs : List X} {ys : List Y} (x : X) (y : Y) → Paired R xs ys → R x y → Paired R (xs ++ x ∷ []) (ys ++ y ∷ [])
  pair_last x y no_more r = one_more r no_more
  pair_last x y (one_more s p) r = one_more s (pair_last x y p r)

  pub more_paired : (xs : List X) (ys zs : List Y) (x : X) (y : Y) → Paired R xs ys → R x y → zs ≡ ys ++ y ∷ [] → Paired R (xs ++ x ∷ []) zs
  more_paired xs ys zs x y p r e = subst (Paired R (xs ++ x ∷ [])) (sym e) (pair_last x y p r)

  pub paired_at : (xs : List X) (ys : List Y) (i : ℕ) (x : X) → Paired R xs ys → slice_get xs i ≡ Some x → (y : Y) × R x y
  paired_at [] ys i x p e = absurd (none-some x e)
  paired_at (x ∷ xs) [] i z p e = elim p [ ]
  paired_at (x ∷ xs) (y ∷ ys) zero z (one_more r p) e = (y, subst (λ x. R x y) (same_Some x z e) r)
  paired_at (x ∷ xs) (y ∷ ys) (suc i) z (one_more r p) e = paired_at xs ys i z p e

-- a loop over a list: what it takes next, and that at the end all was taken
module _ {X S : Type 0} {steps : S → Option X → S → Type 0} {s : S} (all : List X) (road : YieldsList steps (λ y. y) s all) (xs : List X) (now : S)
    (y : Yields steps s xs now) (r : Option X) (u : S) (step : steps now r u) where
  pub next_at : (e : X) → r ≡ Some e → slice_get all (length xs) ≡ Some e
  next_at e is = let turn = YieldsList-turn road xs now y r u e is step in slice_get_read all (length all) (length xs) e refl turn.0 turn.1

  pub all_taken : r ≡ None → xs ≡ all
  all_taken is = sym (map-id xs) ∙ (YieldsList-end road xs now y r u is step).0

  -- and it stands behind those that were taken
  pub next_cut : (e : X) → r ≡ Some e → (us : List X) × (all ≡ xs ++ e ∷ us)
  next_cut e is =
      let so_far : xs ≡ take (length xs) all = sym (map-id xs) ∙ YieldsList-so_far road xs now y in
      let c = cut all (length xs) (next_at e is) in (c.0, c.1 ∙ ap (λ l. l ++ e ∷ c.0) (sym so_far))
    where
      cut : (l : List X) (n : ℕ) → slice_get l n ≡ Some e → (us : List X) × (l ≡ take n l ++ e ∷ us)
      cut [] n is = absurd (none-some e is)
      cut (x ∷ l) zero is = (l, ap (λ (y : X). y ∷ l) (same_Some x e is))
      cut (x ∷ l) (suc n) is = let c = cut l n is in (c.0, ap (λ (m : List X). x ∷ m) c.1)
