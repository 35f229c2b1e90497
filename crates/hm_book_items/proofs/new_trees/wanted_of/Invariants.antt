use Rattle.std.proofs.Common.{◌≡◌, take}
use Rattle.hm_book_items.specs.LentKeys.{lent_counts}
use Rattle.hm_book_items.specs.Plans.{wanted_of}
use Rattle.hm_book_items.specs.Lent.{lent_lists}
use Rattle.hm_book_items.proofs.new_trees.wanted_of.Given as goal

abbrev pub invariant-loop-list : goal.invariant-loop-list
invariant-loop-list l = lent_counts l.wanted.items ≡ wanted_of (lent_lists (take l.list-index l.lists))
