-- The names that edges have.
use Rattle.std.specs.Prelude.{◌⊎◌, ◌↔◌, List, map}
use Rattle.std.specs.List.{Contains}
use Rattle.std.specs.List.Sorted.{IsStrictlySortedBy}
use Rattle.hm_tree.specs.Names.{Name, name_cmp}
use Rattle.hm_changes.specs.Taken.{Edges}

abbrev pub names_of : Edges → List Name
names_of es = map (λ e. e.0) es

-- the names of two lists of edges, in their order and each once
pub record AreUnited (ones others : Edges) (names : List Name) : Type 0 where
  pub rise : IsStrictlySortedBy name_cmp names
  pub each : (k : Name) → Contains names k ↔ (Contains (names_of ones) k ⊎ Contains (names_of others) k)
