-- Vertices of a graph with more behind it: they stay what they are.
use Rattle.std.proofs.Common.{◌≡◌, ◌↔◌, ℕ, ◌<◌, List, [], ◌∷◌, ◌++◌, length, slice_get, Option, Some, None, option_and_then, refl, sym, ap, ◌∙◌}
use Rattle.std.specs.Option.{option_map}
use Rattle.hm_graph.specs.Same.{Graph, IsClosed, next_at, edges_of, face, reached, seen_along, AreAlike}
use Rattle.hm_graph_classes.specs.Reduced.{HasVertex}
use Rattle.hm_graph_classes.proofs.Places.{at_front, all_read}
use Rattle.hm_graph.proofs.Search.{closed_at}

-- what is seen from where an edge leads
abbrev pub seen_from : Graph → List ℕ → Option ℕ → Option (ℕ × ℕ)
seen_from g way x = option_and_then (λ j. option_map face (slice_get g j)) (option_and_then (λ j. reached g j way) x)

module _ (g more : Graph) (closed : IsClosed g) where
  edges_front : (i : ℕ) → i < length g → next_at (g ++ more) i ≡ next_at g i
  edges_front i lt = ap edges_of (at_front g more i lt)

  pub seen_front : (way : List ℕ) (i : ℕ) → i < length g → seen_along (g ++ more) i way ≡ seen_along g i way
  seen_front [] i lt = ap (option_map face) (at_front g more i lt)
  seen_front (k ∷ way) i lt =
      ap (λ (l : List ℕ). seen_from (g ++ more) way (slice_get l k)) (edges_front i lt) ∙ go (slice_get (next_at g i) k) refl (λ j. seen_front way j)
    where
      go : (x : Option ℕ) → slice_get (next_at g i) k ≡ x → ((j : ℕ) → j < length g → seen_along (g ++ more) j way ≡ seen_along g j way)
          → seen_from (g ++ more) way x ≡ seen_from g way x
      go None e rest = refl
      go (Some j) e rest = rest j (all_read (λ k. k < length g) (next_at g i) k j e (closed_at g i closed))

  -- vertices are alike there exactly where they were
  pub alike_front : (i j : ℕ) → i < length g → j < length g → AreAlike (g ++ more) i j ↔ AreAlike g i j
  alike_front i j one two = (
    λ a. record { along = λ way. sym (seen_front way i one) ∙ a.along way ∙ seen_front way j two },
    λ a. record { along = λ way. seen_front way i one ∙ a.along way ∙ sym (seen_front way j two) },
  )

  pub has_front : (i label : ℕ) (next : List ℕ) → i < length g → HasVertex g i label next ↔ HasVertex (g ++ more) i label next
  has_front i label next lt = (
    λ h. record { vertex = h.vertex; is = at_front g more i lt ∙ h.is; label_is = h.label_is; next_is = h.next_is },
    λ h. record { vertex = h.vertex; is = sym (at_front g more i lt) ∙ h.is; label_is = h.label_is; next_is = h.next_is },
  )
