use Rattle.hm_tree.specs.Nodes.{depth}
use Rattle.hm_tree_parts.proofs.Items.{IsTakenSoFar}
use Rattle.hm_tree_parts.proofs.list.into_items.Given as goal

abbrev pub invariant-loop-item : goal.invariant-loop-item
invariant-loop-item l = IsTakenSoFar l.fn.tree l.items.items l.rest

abbrev pub decreases-loop-item : goal.decreases-loop-item
decreases-loop-item l = depth l.rest
