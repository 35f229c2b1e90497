-- Comparing what a reader gives with some bytes, piece by piece.
use Rattle.std.proofs.Common.{◌≡◌, ◌≢◌, ◌↔◌, ℕ, List, ◌++◌, Option, Some, None, IfSome, IsTrue, false, sym, ap, ◌∙◌, append_assoc}
use Rattle.std.specs.Io.KnownBytes.{Consumes}
use Rattle.std.proofs.KnownBytes.{Consumes-trans}
use Rattle.std.proofs.lemmas.List.{append_cancel_left}

module _ (a b c : Option (List ℕ)) (given piece rest bytes : List ℕ) (h : Consumes a b given) (k : Consumes b c piece) (is : bytes ≡ given ++ rest) where
  -- one piece more that is the next of the bytes
  pub piece_is : (behind : List ℕ) → rest ≡ piece ++ behind → (x : List ℕ) × Consumes a c x × (bytes ≡ x ++ behind)
  piece_is behind split = (given ++ piece, Consumes-trans a b c given piece h k, is ∙ ap (λ l. given ++ l) split ∙ sym (append_assoc given piece behind))

-- a piece that isn't
pub piece_differs : (a b c : Option (List ℕ)) (given piece rest bytes : List ℕ) → Consumes a b given → Consumes b c piece → bytes ≡ given ++ rest
    → ((l : List ℕ) → rest ≢ piece ++ l) → IfSome a (λ held. IsTrue false ↔ (held ≡ bytes))
piece_differs None b c given piece rest bytes h k is other = tt
piece_differs (Some xs) None c given piece rest bytes h k is other = absurd h
piece_differs (Some xs) (Some ys) None given piece rest bytes h k is other = absurd k
piece_differs (Some xs) (Some ys) (Some zs) given piece rest bytes h k is other =
    ((λ no. let f : ⊥ = cc in absurd f), (λ e. absurd (other zs (append_cancel_left given rest ys (sym is ∙ sym e ∙ h) ∙ k))))
