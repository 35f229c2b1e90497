-- One piece more in what is written.
use Rattle.std.proofs.Common.{◌≡◌, ℕ, ◌+◌, ◌<◌, ◌≤◌, List, [], ◌∷◌, ◌++◌, length, get_or, take, refl, sym, ap, ◌∙◌, add-one, arith}
use Rattle.std.proofs.Math.Seq.{take-suc}
use Rattle.std.proofs.lemmas.List.{append_assoc, length-take}
use Rattle.hm_csv_fields.specs.Pieces.{stroke, spelled, written}

-- behind other pieces a stroke stands before it
pub written_last : (p q : List ℕ) (ps : List (List ℕ)) → written ((p ∷ ps) ++ q ∷ []) ≡ written (p ∷ ps) ++ stroke ∷ spelled q
written_last p q [] = refl
written_last p q (r ∷ ps) =
    ap (λ l. spelled p ++ stroke ∷ l) (written_last r q ps) ∙ sym (append_assoc (spelled p) (stroke ∷ written (r ∷ ps)) (stroke ∷ spelled q))

module _ (ps : List (List ℕ)) (i : ℕ) (lt : i < length ps) where
  taken : take (i + 1) ps ≡ take i ps ++ get_or ps i [] ∷ []
  taken = rw add-one (take-suc ps i [] lt)

  pub first_piece : (made new : List ℕ) → i ≤ 0 → made ≡ written (take i ps) → new ≡ made ++ spelled (get_or ps i []) → new ≡ written (take (i + 1) ps)
  first_piece made new low is more =
      let zero : i ≡ 0 = omega arith in
      more ∙ ap (λ l. l ++ spelled (get_or ps i [])) (is ∙ ap (λ n. written (take n ps)) zero)
      ∙ ap (λ n. written (take n ps ++ get_or ps i [] ∷ [])) (sym zero) ∙ sym (ap written taken)

  pub next_piece : (made mid new : List ℕ) → 0 < i → made ≡ written (take i ps) → mid ≡ made ++ stroke ∷ [] → new ≡ mid ++ spelled (get_or ps i [])
      → new ≡ written (take (i + 1) ps)
  next_piece made mid new high is with_stroke more =
      more ∙ ap (λ l. l ++ spelled (get_or ps i [])) (with_stroke ∙ ap (λ l. l ++ stroke ∷ []) is)
      ∙ append_assoc (written (take i ps)) (stroke ∷ []) (spelled (get_or ps i []))
      ∙ behind (take i ps) (some ps i high lt) ∙ sym (ap written taken)
    where
      some : (ps : List (List ℕ)) (i : ℕ) → 0 < i → i < length ps → 0 < length (take i ps)
      some ps i high lt = let e = length-take i ps in omega (arith, e)

      behind : (front : List (List ℕ)) → 0 < length front
          → written front ++ stroke ∷ spelled (get_or ps i []) ≡ written (front ++ get_or ps i [] ∷ [])
      behind [] none = absurd (omega arith)
      behind (p ∷ front) h = sym (written_last p (get_or ps i []) front)
