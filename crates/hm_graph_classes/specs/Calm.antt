-- Which vertices of a graph are calm while numbers of vertices change.
use Rattle.std.specs.Prelude.{◌≡◌, ◌≢◌, ◌↔◌, ℕ, Bool, true, false, ◌<◌, ◌≤◌, List, All, length, Some, Vec, slice_get, slice_index_or}
use Rattle.std.specs.declared.alloc.Global.{Global}
use Rattle.hm_graph.specs.Same.{Graph, next_at}
use Rattle.hm_graph_classes.specs.Reduced.{class_at}

-- whether a vertex is calm
abbrev pub flag_at : List Bool → ℕ → Bool
flag_at flags i = slice_index_or flags i false

-- a number isn't among others
abbrev pub Lacks : List ℕ → ℕ → Type 0
Lacks ns n = All (λ m. m ≢ n) ns

abbrev pub Lists : Type 0
Lists = List (Vec ℕ Global)

-- a list for each vertex, with those of the first so many vertices whose edges lead to it
pub record AreSources (g : Graph) (bound : ℕ) (lists : Lists) : Type 0 where
  pub size : length lists ≡ length g
  pub each : (k : ℕ) (list : Vec ℕ Global) → slice_get lists k ≡ Some list → (i : ℕ) → i < bound → Lacks list.items i ↔ Lacks (next_at g i) k
  pub none : (k : ℕ) (list : Vec ℕ Global) → slice_get lists k ≡ Some list → (i : ℕ) → bound ≤ i → Lacks list.items i

-- a number is put into the lists at some places
pub record ArePut (old new : Lists) (places : List ℕ) (number : ℕ) : Type 0 where
  pub size : length new ≡ length old
  pub each : (k : ℕ) (one two : Vec ℕ Global) → slice_get old k ≡ Some one → slice_get new k ≡ Some two
      → (i : ℕ) → Lacks two.items i ↔ (Lacks one.items i × (i ≡ number → Lacks places k))

-- the flag of a vertex says whether its edges to the first so many vertices lead to some that have the same number twice
pub record AreCalmBelow (g : Graph) (old new : List ℕ) (bound : ℕ) (flags : List Bool) : Type 0 where
  pub size : length flags ≡ length g
  pub each : (i : ℕ) → i < length g → (flag_at flags i ≡ true) ↔ All (λ k. k < bound → class_at old k ≡ class_at new k) (next_at g i)

-- vertices are calm where their edges lead to vertices that have the same number twice
pub record AreCalm (g : Graph) (old new : List ℕ) (flags : List Bool) : Type 0 where
  pub size : length flags ≡ length g
  pub each : (i : ℕ) → i < length g → (flag_at flags i ≡ true) ↔ All (λ k. class_at old k ≡ class_at new k) (next_at g i)
