use Rattle.hm_tree.specs.NodeLaws.{node-nil}
use Rattle.hm_tree.proofs.tree.Tree.empty.Goals as goal

pub returns : goal.returns
returns c = node-nil _ c.new.ensures.items
