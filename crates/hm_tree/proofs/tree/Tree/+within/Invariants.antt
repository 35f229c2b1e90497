use Rattle.std.proofs.Common.{take}
use Rattle.std.specs.List.{All}
use Rattle.hm_tree.specs.Nodes.{edges}
use Rattle.hm_tree.proofs.Presence.{IsEdgeWithin}
use Rattle.hm_tree.proofs.tree.Tree.+within.Given as goal

abbrev pub invariant-loop-place : goal.invariant-loop-place
invariant-loop-place l = All (IsEdgeWithin l.archive) (take l.place (edges l.self))
