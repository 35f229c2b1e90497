use Rattle.hm_tree.specs.NodeLaws.{node-nil}
use Rattle.hm_tree.proofs.tree.Tree.with_capacity.Goals as goal

pub returns : goal.returns
returns c = node-nil _ c.in_ok-with_capacity.ensures.items
