use Rattle.hm_tree.specs.Nodes.{depth}
use Rattle.hm_tree_parts.specs.Lent.{lent}
use Rattle.hm_tree_parts.proofs.Items.{IsTakenSoFar}
use Rattle.hm_tree_parts.proofs.list.lent_items.Given as goal

abbrev pub invariant-loop-first : goal.invariant-loop-first
invariant-loop-first l = IsTakenSoFar l.fn.list (lent l.items.items) l.rest

abbrev pub decreases-loop-first : goal.decreases-loop-first
decreases-loop-first l = depth l.rest
