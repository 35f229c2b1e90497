use Rattle.std.proofs.Common.{arith}
use Rattle.hm_tree_parts.proofs.Items.{none_built, one_built, all_built}
use Rattle.hm_tree_parts.proofs.list.list_build.Goals as goal

pub loop-item-init : goal.loop-item-init
loop-item-init c = none_built _ _ c.empty-tree.ensures

pub loop-item-preserved : goal.loop-item-preserved
loop-item-preserved c = one_built _ _ _ _ _ _ c.loop-item.invariant c.in-Some.ensures.items c.in_ok-tree.ensures

pub returns : goal.returns
returns c = all_built _ _ _ c.loop-item.invariant (omega (arith, c.loop-item.left.ok, c.in_default.ensures.cases.0))
