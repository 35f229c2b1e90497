use Rattle.std.proofs.Common.{take}
use Rattle.hm_marks_trees.specs.Trees.{AreDepthsOf}
use Rattle.hm_marks_trees.proofs.measures.+depths.Given as goal

abbrev pub invariant-depth_of-loop-node : goal.invariant-depth_of-loop-node
invariant-depth_of-loop-node l = AreDepthsOf (take l.node-index l.nodes) l.depths.items
