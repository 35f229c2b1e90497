use Rattle.hm_marks_trees.specs.Nodes.{AreItemsOf}
use Rattle.hm_marks_trees.proofs.tree.+trees.Given as goal

abbrev pub invariant-tree_of-loop-node : goal.invariant-tree_of-loop-node
invariant-tree_of-loop-node l = AreItemsOf l.yielded l.items.items
