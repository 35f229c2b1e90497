-- What stands at a path, if anything does: its edges, and a measure that falls below it.
use Rattle.std.proofs.Common.{ℕ, suc, [], Option, Some, None, Bor}
use Rattle.hm_tree.specs.Nodes.{Tree, depth, edges}
use Rattle.hm_changes.specs.Taken.{Edges}

-- one more than the depth, or 0
abbrev pub height : Option (Bor Tree) → ℕ
height None = 0
height (Some t) = suc (depth t.now)

abbrev pub edges_in : Option (Bor Tree) → Edges
edges_in None = []
edges_in (Some t) = edges t.now
