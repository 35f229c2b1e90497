-- Which vertices of a graph are the same.
use Rattle.std.specs.Prelude.{◌≡◌, ℕ, ◌<◌, Bool, IsTrue, List, [], ◌∷◌, length, All, Option, Some, None, slice_get, option_and_then}
use Rattle.std.specs.Option.{option_map}
use Rattle.std.specs.List.{AllZip}
use Rattle.hm_graph.specs.declared.sameness.Vertex.{Vertex}

abbrev pub Graph : Type 0
Graph = List Vertex

-- all edges lead to vertices
abbrev pub IsClosed : Graph → Type 0
IsClosed g = All (λ v. All (λ k. k < length g) v.next.items) g

abbrev pub label_at : Graph → ℕ → Option ℕ
label_at g i = option_map (λ (v : Vertex). v.label) (slice_get g i)

abbrev pub edges_of : Option Vertex → List ℕ
edges_of None = []
edges_of (Some v) = v.next.items

-- where the edges of a vertex lead
abbrev pub next_at : Graph → ℕ → List ℕ
next_at g i = edges_of (slice_get g i)

-- two vertices have equal labels, and their edges lead, place by place, to what R relates
pub record Match (g : Graph) (R : ℕ → ℕ → Type 0) (i j : ℕ) : Type 0 where
  pub one : i < length g
  pub two : j < length g
  pub label : label_at g i ≡ label_at g j
  pub next : AllZip R (next_at g i) (next_at g j)

-- two vertices are bisimilar: some pairing holds them, and what it pairs matches
pub record AreBisimilar (g : Graph) (i j : ℕ) : Type 0 where
  pub paired : ℕ → ℕ → Bool
  pub closed : (a b : ℕ) → IsTrue (paired a b) → Match g (λ c d. IsTrue (paired c d)) a b
  pub here : IsTrue (paired i j)

-- ---- ways, which say which edge to take next

-- where a way leads from a vertex
abbrev pub reached : Graph → ℕ → List ℕ → Option ℕ
reached g i [] = Some i
reached g i (k ∷ way) = option_and_then (λ j. reached g j way) (slice_get (next_at g i) k)

-- the label of a vertex, and how many edges it has
abbrev pub face : Vertex → ℕ × ℕ
face v = (v.label, length v.next.items)

-- the label at the end of a way, and how many edges there are
abbrev pub seen_along : Graph → ℕ → List ℕ → Option (ℕ × ℕ)
seen_along g i way = option_and_then (λ j. option_map face (slice_get g j)) (reached g i way)

-- two vertices are alike on every way: from both of them it leads nowhere, or to vertices with equal labels and as many
-- edges
pub record AreAlike (g : Graph) (i j : ℕ) : Type 0 where
  pub along : (way : List ℕ) → seen_along g i way ≡ seen_along g j way
