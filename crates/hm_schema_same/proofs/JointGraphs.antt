-- The graph of the nodes of two schemas, vertex by vertex.
use Rattle.std.proofs.Common.{◌≡◌, ℕ, zero, suc, ◌+◌, ◌<◌, inl, inr, List, [], ◌∷◌, ◌++◌, length, slice_get, Some, refl, sym, ap, ◌∙◌, arith, zero-add, suc-add, length-append}
use Rattle.std.specs.Option.{option_map}
use Rattle.std.proofs.lemmas.Bool.{cases_eq}
use Rattle.std.proofs.lemmas.Option.{same_Some}
use Rattle.hm_graph.specs.declared.sameness.Vertex.{Vertex}
use Rattle.hm_graph.specs.Same.{Graph, edges_of}
use Rattle.hm_schema.specs.Values.{NodeValue}
use Rattle.hm_schema.specs.Tidied.{tidied}
use Rattle.hm_schema_same.specs.JointGraphs.{IsVertexOf, begins, edges_from}

module _ {X : Type 0} where
  pub slice_get_front : (xs ys : List X) (i : ℕ) → i < length xs → slice_get (xs ++ ys) i ≡ slice_get xs i
  slice_get_front [] ys i lt = absurd (omega arith)
  slice_get_front (x ∷ xs) ys zero lt = refl
  slice_get_front (x ∷ xs) ys (suc i) lt = slice_get_front xs ys i (omega arith)

  pub slice_get_behind : (xs ys : List X) (i : ℕ) → slice_get (xs ++ ys) (length xs + i) ≡ slice_get ys i
  slice_get_behind [] ys i = ap (slice_get ys) (zero-add i)
  slice_get_behind (x ∷ xs) ys i = ap (slice_get (x ∷ (xs ++ ys))) (suc-add (length xs) i) ∙ slice_get_behind xs ys i

  pub slice_get_last : (xs : List X) (x : X) → slice_get (xs ++ x ∷ []) (length xs) ≡ Some x
  slice_get_last [] x = refl
  slice_get_last (y ∷ xs) x = slice_get_last xs x

-- the first vertices are those of the first nodes
pub record AreVertices (nodes : List NodeValue) (labels : List ℕ) (count i : ℕ) (g : Graph) : Type 0 where
  pub size : length g ≡ i
  pub each : (k : ℕ) (n : NodeValue) → k < i → slice_get nodes k ≡ Some n → IsVertexOf g labels count k n

pub vertex_more : (nodes : List NodeValue) (labels : List ℕ) (count i : ℕ) (g : Graph) (v : Vertex) (n : NodeValue)
    → AreVertices nodes labels count i g → slice_get nodes i ≡ Some n → slice_get labels i ≡ Some v.label
    → v.next.items ≡ edges_from (begins count i) (tidied n) → AreVertices nodes labels count (i + 1) (g ++ v ∷ [])
vertex_more nodes labels count i g v n h at label next = record {
  size = omega (arith, length-append g (v ∷ []), h.size);
  each = λ k m lt at_k. elim (cases_eq k i) [
    | inl e ↦
        let same : n ≡ m = same_Some n m (sym at ∙ ap (slice_get nodes) (sym e) ∙ at_k) in
        let there : slice_get (g ++ v ∷ []) k ≡ Some v = ap (slice_get (g ++ v ∷ [])) (e ∙ sym h.size) ∙ slice_get_last g v in
        record {
          label = ap (option_map (λ (v : Vertex). v.label)) there ∙ sym label ∙ ap (slice_get labels) (sym e);
          next = ap edges_of there ∙ next ∙ (λ t. edges_from (begins count (sym e t)) (tidied (same t)));
        }
    | inr ne ↦
        let old = h.each k m (omega arith) at_k in
        let there : slice_get (g ++ v ∷ []) k ≡ slice_get g k = slice_get_front g (v ∷ []) k (omega (arith, h.size)) in
        record {
          label = ap (option_map (λ (v : Vertex). v.label)) there ∙ old.label;
          next = ap edges_of there ∙ old.next;
        }
  ];
}
