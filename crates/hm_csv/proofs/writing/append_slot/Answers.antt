use Rattle.std.proofs.Common.{◌+◌, [], get_or, refl, None}
use Rattle.hm_book_items.specs.Lent.{lent_lists}
use Rattle.hm_csv_columns.specs.Records.{rewritten}
use Rattle.hm_csv.specs.Rewriting.{rows_in, row_in, slot_in}
use Rattle.hm_csv.proofs.Slots.{lent_parts, item_below, old_is, fresh_is}
use Rattle.hm_csv.proofs.Appended.{appended_same}
use Rattle.hm_csv.proofs.writing.append_slot.Goals as goal

pub append_rewritten-requires-clause-inside : goal.append_rewritten-requires-clause-inside
append_rewritten-requires-clause-inside c =
    item_below c.args.opened.now c.args.lists.now c.args.slot.now c.requires.inside c.index-lists-slot.result c.index-lists-slot.is c.in-Some.item c.in-Some.is c.requires.even.some

pub returns-in-Some : goal.returns-in-Some
returns-in-Some c =
    let w = c.args.opened.now in
    let lists = lent_lists c.args.lists.now in
    let card = c.index-card.result.now.now in
    appended_same (rows_in w) (rows_in w) c.args.at c.args.writer.now c.append_rewritten.new.writer
    (rewritten w.table.columns.items card (get_or (rows_in w) (c.in-Some.item + 1) [])) (row_in w (slot_in w lists c.args.slot.now)) c.append_rewritten.result refl
    (old_is w lists c.args.slot.now c.index-lists-slot.result.0.now card c.in-Some.item
    (lent_parts w c.args.lists.now c.args.slot.now c.requires.inside c.index-lists-slot.result c.index-lists-slot.is c.index-card.result.now c.index-card.ensures)
    c.in-Some.is) c.append_rewritten.ensures

pub returns-in-None : goal.returns-in-None
returns-in-None c =
    let w = c.args.opened.now in
    let lists = lent_lists c.args.lists.now in
    let key = c.index-lists-slot.result.0.now in
    let card = c.index-card.result.now.now in
    appended_same (rows_in w) (rows_in w) c.args.at c.args.writer.now c.append_new.new.writer (row_in w (key, None, card)) (row_in w (slot_in w lists c.args.slot.now))
    c.append_new.result refl
    (fresh_is w lists c.args.slot.now key card
    (lent_parts w c.args.lists.now c.args.slot.now c.requires.inside c.index-lists-slot.result c.index-lists-slot.is c.index-card.result.now c.index-card.ensures)
    c.in-None.is) c.append_new.ensures
