-- Graphs of which no two vertices are alike, as they grow and as they stand for other graphs.
use Rattle.std.specs.Prelude.{◌≡◌, ℕ, ◌<◌, List, ◌++◌, length, map, Some, slice_get, slice_index_or}
use Rattle.hm_graph.specs.declared.sameness.Vertex.{Vertex}
use Rattle.hm_graph.specs.Same.{Graph, IsClosed, AreAlike}

-- all edges lead to vertices, and vertices that are alike are one
pub record IsReduced (g : Graph) : Type 0 where
  pub closed : IsClosed g
  pub apart : (i j : ℕ) → i < length g → j < length g → AreAlike g i j → i ≡ j

-- a vertex has this label, and its edges lead there
pub record HasVertex (g : Graph) (i label : ℕ) (next : List ℕ) : Type 0 where
  pub vertex : Vertex
  pub is : slice_get g i ≡ Some vertex
  pub label_is : vertex.label ≡ label
  pub next_is : vertex.next.items ≡ next

-- a graph only grows
pub record Grows (old new : Graph) : Type 0 where
  pub more : Graph
  pub is : new ≡ old ++ more

-- the number of a vertex
abbrev pub class_at : List ℕ → ℕ → ℕ
class_at classes i = slice_index_or classes i 0

-- each vertex of a graph has a class, which is a vertex of another graph: it has the same label, and its edges lead to the
-- classes of what the edges lead to
pub record AreClasses (g reduced : Graph) (classes : List ℕ) : Type 0 where
  pub size : length classes ≡ length g
  pub each : (i c : ℕ) (v : Vertex) → slice_get g i ≡ Some v → slice_get classes i ≡ Some c
      → HasVertex reduced c v.label (map (class_at classes) v.next.items)
