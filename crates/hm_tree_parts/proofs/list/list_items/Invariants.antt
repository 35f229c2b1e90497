use Rattle.std.proofs.Common.{◌≡◌, take}
use Rattle.hm_tree_parts.specs.Lent.{lent}
use Rattle.hm_tree_parts.proofs.list.list_items.Given as goal

-- the items up to here were copied
abbrev pub invariant-loop-item : goal.invariant-loop-item
invariant-loop-item l = l.items.items ≡ lent (take l.item-index l.item-items)
