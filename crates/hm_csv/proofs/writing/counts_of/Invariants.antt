use Rattle.std.proofs.Common.{◌≡◌, take}
use Rattle.hm_book_items.specs.LentKeys.{lent_counts}
use Rattle.hm_book_items.specs.Lent.{lent_lists}
use Rattle.hm_csv.specs.Rewriting.{counts_in}
use Rattle.hm_csv.proofs.writing.counts_of.Given as goal

abbrev pub invariant-loop-list : goal.invariant-loop-list
invariant-loop-list l = lent_counts l.counts.items ≡ counts_in (lent_lists (take l.list-index l.lists))
