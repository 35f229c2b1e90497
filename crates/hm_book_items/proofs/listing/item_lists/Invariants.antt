use Rattle.std.proofs.Common.{take}
use Rattle.hm_book_items.specs.ItemTrees.{AreLists}
use Rattle.hm_book_items.specs.Lent.{lent_lists}
use Rattle.hm_book_items.proofs.listing.item_lists.Given as goal

-- the edges up to here were taken apart
abbrev pub invariant-loop-edge : goal.invariant-loop-edge
invariant-loop-edge l = AreLists (take l.edge-index l.edge-items) (lent_lists l.lists.items)
