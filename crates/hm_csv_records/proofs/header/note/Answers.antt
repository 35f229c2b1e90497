use Rattle.std.proofs.Common.{true, false}
use Rattle.std.specs.BTreeMap.{get}
use Rattle.hm_tree.specs.Names.{name_cmp}
use Rattle.hm_csv_records.proofs.ColumnLaws.{put, leave, found}
use Rattle.hm_csv_records.proofs.header.note.Goals as goal

pub returns-in_ok-insert : goal.returns-in_ok-insert
returns-in_ok-insert c =
    put c.args.title c.args.place (get name_cmp c.args.titles.now) (get name_cmp c.insert.new.self)
    (found c.get.result (get name_cmp c.args.titles.now c.args.title) c.is_none.result true c.get.ensures.value c.is_none.ensures c.if-is_none.true)
    c.in_ok-insert.ensures.updates.0

pub returns-else-is_none : goal.returns-else-is_none
returns-else-is_none c =
    leave c.args.title c.args.place (get name_cmp c.args.titles.now) (get name_cmp c.args.titles.now)
    (found c.get.result (get name_cmp c.args.titles.now c.args.title) c.is_none.result false c.get.ensures.value c.is_none.ensures c.if-is_none.false)
