-- What stands at places of lists of vertices.
use Rattle.std.proofs.Common.{◌≡◌, ℕ, zero, suc, ◌<◌, List, [], ◌∷◌, ◌++◌, length, slice_get, Some, All, refl, ap, subst, arith}
use Rattle.std.specs.Option.{option_map}
use Rattle.std.proofs.lemmas.Option.{get_or_from_slice_get, slice_get_within}
use Rattle.std.proofs.lemmas.List.Elements.{All-get_or}
use Rattle.hm_graph.specs.declared.sameness.Vertex.{Vertex}
use Rattle.hm_graph.specs.Same.{Graph, label_at, next_at, edges_of}

module _ {X : Type 0} where
  pub at_front : (xs ys : List X) (i : ℕ) → i < length xs → slice_get (xs ++ ys) i ≡ slice_get xs i
  at_front [] ys i lt = absurd (omega arith)
  at_front (x ∷ xs) ys zero lt = refl
  at_front (x ∷ xs) ys (suc i) lt = at_front xs ys i (omega arith)

  pub at_last : (xs : List X) (x : X) → slice_get (xs ++ x ∷ []) (length xs) ≡ Some x
  at_last [] x = refl
  at_last (y ∷ xs) x = at_last xs x

  pub there : (xs : List X) (i : ℕ) → i < length xs → (x : X) × (slice_get xs i ≡ Some x)
  there [] i lt = absurd (omega arith)
  there (x ∷ xs) zero lt = (x, refl)
  there (x ∷ xs) (suc i) lt = there xs i (omega arith)

  pub all_read : (P : X → Type 0) (xs : List X) (i : ℕ) (x : X) → slice_get xs i ≡ Some x → All P xs → P x
  all_read P xs i x e all = subst P (get_or_from_slice_get xs i x x e) (All-get_or P xs i x (slice_get_within xs i x e) all)

module _ (g : Graph) (i : ℕ) (v : Vertex) (e : slice_get g i ≡ Some v) where
  pub label_is : label_at g i ≡ Some v.label
  label_is = ap (option_map (λ (v : Vertex). v.label)) e

  pub next_is : next_at g i ≡ v.next.items
  next_is = ap edges_of e
