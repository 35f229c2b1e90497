use Rattle.std.proofs.Common.{take}
use Rattle.hm_marks_trees.proofs.NodeMeasures.{AreCounted}
use Rattle.hm_marks_trees.proofs.measures.+nesting.Given as goal

abbrev pub invariant-nested_in-loop-node : goal.invariant-nested_in-loop-node
invariant-nested_in-loop-node l = AreCounted (take l.node-index l.nodes) l.most
