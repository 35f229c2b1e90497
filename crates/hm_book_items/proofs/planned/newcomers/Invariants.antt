use Rattle.std.proofs.Common.{◌≡◌, ℕ, ◌++◌, take}
use Rattle.hm_book_items.specs.LentKeys.{lent_counts}
use Rattle.hm_book_items.specs.Plans.{slots_of, past, AreWithin}
use Rattle.hm_book_items.proofs.planned.newcomers.Given as goal

abbrev pub invariant-loop-edge : goal.invariant-loop-edge
invariant-loop-edge l = (slots_of (lent_counts l.wanted) l.slots.items ≡ slots_of (lent_counts l.fn.wanted) l.fn.slots.items ++ past (take l.edge (lent_counts l.wanted)) (take l.edge l.counts))
    × ((count : ℕ) → AreWithin (lent_counts l.fn.wanted) count l.fn.slots.items → AreWithin (lent_counts l.fn.wanted) count l.slots.items)
