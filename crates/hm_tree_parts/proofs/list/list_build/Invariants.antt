use Rattle.std.proofs.Common.{length}
use Rattle.hm_tree_parts.proofs.Items.{IsBuiltSoFar}
use Rattle.hm_tree_parts.proofs.list.list_build.Given as goal

abbrev pub invariant-loop-item : goal.invariant-loop-item
invariant-loop-item l = IsBuiltSoFar l.fn.items.items l.left.items l.tree

abbrev pub decreases-loop-item : goal.decreases-loop-item
decreases-loop-item l = length l.left.items
