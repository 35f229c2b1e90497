use Rattle.std.proofs.Common.{◌≡◌, ◌≤◌, ◌∷◌, length, take}
use Rattle.std.specs.Prelude.{IsTrue, ◌↔◌}
use Rattle.hm_book_items.specs.Lent.{lent_lists}
use Rattle.hm_csv_records.specs.Written.{HasWritten}
use Rattle.hm_csv.specs.Rewriting.{header_in, others_in, slot_rows}
use Rattle.hm_csv.proofs.writing.rewrite_all.Given as goal

abbrev pub invariant-loop-at : goal.invariant-loop-at
invariant-loop-at l =
    HasWritten l.writer l.opened.mark (header_in l.opened ∷ slot_rows l.opened (lent_lists l.lists) (take l.at l.slots))
    × (IsTrue l.same ↔ (slot_rows l.opened (lent_lists l.lists) (take l.at l.slots) ≡ take l.at (others_in l.opened)))
    × (l.at ≤ length l.slots)
