-- One item more of a list that is filtered, behind what was there before.
use Rattle.std.proofs.Common.{◌≡◌, ℕ, ◌+◌, ◌<◌, Bool, true, false, cond, List, [], ◌∷◌, ◌++◌, length, get_or, take, filter, sym, ap, ◌∙◌, add-one}
use Rattle.std.proofs.Math.Seq.{take-suc}
use Rattle.std.proofs.lemmas.List.{append_assoc, append-nil}
use Rattle.std.proofs.lemmas.List.Elements.{filter-append}

module _ {X : Type 0} (p : X → Bool) (xs : List X) (i : ℕ) (x : X) (lt : i < length xs) (is : x ≡ get_or xs i x) where
  taken : take (i + 1) xs ≡ take i xs ++ x ∷ []
  taken = rw add-one (take-suc xs i x lt ∙ ap (λ y. take i xs ++ y ∷ []) (sym is))

  module _ (base old new : List X) (before : old ≡ base ++ filter p (take i xs)) where
    by : (b : Bool) → p x ≡ b → new ≡ old ++ cond b (x ∷ []) [] → new ≡ base ++ filter p (take (i + 1) xs)
    by b e is_new =
        is_new ∙ ap (λ l. l ++ cond b (x ∷ []) []) before
        ∙ append_assoc base (filter p (take i xs)) (cond b (x ∷ []) [])
        ∙ ap (λ c. base ++ (filter p (take i xs) ++ cond c (x ∷ []) [])) (sym e)
        ∙ ap (λ l. base ++ l) (sym (filter-append p (take i xs) (x ∷ [])) ∙ ap (filter p) (sym taken))

    pub comes : p x ≡ true → new ≡ old ++ x ∷ [] → new ≡ base ++ filter p (take (i + 1) xs)
    comes e is_new = by true e is_new

    pub goes : p x ≡ false → new ≡ old → new ≡ base ++ filter p (take (i + 1) xs)
    goes e is_new = by false e (is_new ∙ sym (append-nil old))
