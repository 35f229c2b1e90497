use Rattle.hm_tree_parts.proofs.Items.{one_taken, all_taken, rest_falls}
use Rattle.hm_tree_parts.proofs.list.into_items.Goals as goal

pub loop-item-smaller : goal.loop-item-smaller
loop-item-smaller c = rest_falls _ _ _ c.in-Some.ensures

pub loop-item-preserved : goal.loop-item-preserved
loop-item-preserved c = one_taken _ _ _ _ _ _ c.loop-item.invariant c.in-Some.ensures c.in_ok-push.ensures.items

pub returns : goal.returns
returns c = all_taken _ _ _ c.loop-item.invariant c.in_default.ensures
