-- Edges as they are read: names, and what was built behind each, which has the value of an archive.
use Rattle.std.specs.Prelude.{true, T, List, map}
use Rattle.hm_tree.specs.Names.{Name}
use Rattle.hm_tree.specs.Nodes.{Node, are_edges}
use Rattle.hm_tree.specs.Archives.{Archive, there, is_there}

-- each name with the value behind it
abbrev pub with_values : {X : Type 0} → (X → Archive) → List (Name × X) → List (Name × Archive)
with_values value es = map (λ e. (e.0, value e.1)) es

-- the same as edges of a node, which lead to nodes
abbrev pub valued_edges : {X : Type 0} → (X → Archive) → List (Name × X) → List (Name × Node true)
valued_edges value es = there (with_values value es)

-- a node has these edges: nothing is missing behind them, and their names rise and are UTF-8
pub record MakeNode {X : Type 0} (value : X → Archive) (es : List (Name × X)) : Type 0 where
  pub all_there : T (is_there (with_values value es))
  pub edges : T (are_edges (valued_edges value es))
