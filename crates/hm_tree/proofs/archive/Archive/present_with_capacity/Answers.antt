use Rattle.std.proofs.Common.{ap, Some}
use Rattle.std.specs.Prelude.{true}
use Rattle.hm_tree.specs.Nodes.{Node}
use Rattle.hm_tree.specs.NodeLaws.{node-nil}
use Rattle.hm_tree.specs.Archives.{there}
use Rattle.hm_tree.proofs.archive.Archive.present_with_capacity.Goals as goal

pub returns : goal.returns
returns c = ap (λ (t : Node true). Some t) (node-nil _ (ap there c.in_ok-with_capacity.ensures.items))
