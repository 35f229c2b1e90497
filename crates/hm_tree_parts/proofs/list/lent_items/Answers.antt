use Rattle.std.proofs.Common.{◌∙◌, ap}
use Rattle.std.proofs.lemmas.List.{map-append}
use Rattle.std.specs.Borrow.{Bor}
use Rattle.hm_tree.specs.Nodes.{Tree}
use Rattle.hm_tree_parts.specs.Lent.{lent}
use Rattle.hm_tree_parts.proofs.Items.{none_taken, one_taken, all_taken, rest_falls}
use Rattle.hm_tree_parts.proofs.list.lent_items.Goals as goal

pub loop-first-init : goal.loop-first-init
loop-first-init c = none_taken _ _ c.requires (ap lent c.new-items.ensures.items)

pub first_item-requires : goal.first_item-requires
first_item-requires c = c.loop-first.invariant.list

pub loop-first-smaller : goal.loop-first-smaller
loop-first-smaller c = rest_falls _ _ _ c.in-Some.ensures

pub loop-first-preserved : goal.loop-first-preserved
loop-first-preserved c = one_taken _ _ _ _ _ _ c.loop-first.invariant c.in-Some.ensures
    (ap lent c.in_ok-push.ensures.items ∙ map-append (λ (t : Bor Tree). t.now) c.loop-first.items.items _)

pub returns : goal.returns
returns c = all_taken _ _ _ c.loop-first.invariant c.in_default.ensures
