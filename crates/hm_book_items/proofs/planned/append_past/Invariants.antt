use Rattle.std.proofs.Common.{◌≡◌, ℕ, [], ◌++◌, ◌-◌, ◌≤◌, get_or}
use Rattle.std.specs.List.{range_with_len}
use Rattle.hm_tree.specs.Names.{name_cmp}
use Rattle.hm_book_items.specs.Items.{fresh}
use Rattle.hm_book_items.specs.LentKeys.{lent_counts}
use Rattle.hm_book_items.specs.Plans.{slots_of, AreWithin}
use Rattle.hm_book_items.proofs.planned.append_past.Given as goal

abbrev pub invariant-loop-place : goal.invariant-loop-place
invariant-loop-place l = (l.fn.count ≤ l.place) × (slots_of (lent_counts l.fn.wanted) l.slots.items ≡ slots_of (lent_counts l.fn.wanted) l.fn.slots.items ++ fresh name_cmp (get_or (lent_counts l.fn.wanted) l.fn.edge ([], 0)).0 (range_with_len l.fn.count (l.place - l.fn.count))) × (l.place - l.fn.count ≤ l.place-end - l.fn.count)
    × ((items : ℕ) → AreWithin (lent_counts l.fn.wanted) items l.fn.slots.items → AreWithin (lent_counts l.fn.wanted) items l.slots.items)
