use Rattle.std.proofs.Common.{take}
use Rattle.hm_tree.specs.Nodes.{edges, depth}
use Rattle.hm_types_views.proofs.TreeNode.{AreShown}
use Rattle.hm_types_views.proofs.exact.+exactly.Given as goal

abbrev pub decreases-exactly : goal.decreases-exactly
decreases-exactly l = depth l.tree.now

abbrev pub invariant-loop-place : goal.invariant-loop-place
invariant-loop-place l = AreShown l.initial.table l.table (take l.place (edges l.tree)) l.next.items
