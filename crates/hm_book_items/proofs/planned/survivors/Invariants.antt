use Rattle.std.proofs.Common.{◌≡◌, length, [], take}
use Rattle.hm_tree.specs.Names.{name_cmp}
use Rattle.hm_book_items.specs.Items.{kept}
use Rattle.hm_book_items.specs.LentKeys.{lent_counts}
use Rattle.hm_book_items.specs.Plans.{slots_of, AreCounts, AreWithin, numbered, places}
use Rattle.hm_book_items.proofs.planned.survivors.Given as goal

abbrev pub invariant-loop-item : goal.invariant-loop-item
invariant-loop-item l = AreCounts (lent_counts l.wanted) (take l.item l.keys) l.counts.items × (slots_of (lent_counts l.wanted) l.slots.items ≡ kept name_cmp (places (lent_counts l.wanted)) [] (numbered 0 (take l.item l.keys))) × AreWithin (lent_counts l.wanted) (length l.keys) l.slots.items
