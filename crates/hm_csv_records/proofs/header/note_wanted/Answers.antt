use Rattle.std.proofs.Common.{◌∙◌, sym}
use Rattle.std.specs.BTreeMap.{get}
use Rattle.hm_tree.specs.Names.{name_cmp}
use Rattle.hm_csv_records.proofs.ColumnLaws.{pass}
use Rattle.hm_csv_records.proofs.header.note_wanted.Goals as goal

pub returns-else-has : goal.returns-else-has
returns-else-has c =
    pass c.args.title c.args.place (get name_cmp c.args.titles.now) (get name_cmp c.args.titles.now) c.args.wanted.now (sym c.has.ensures ∙ c.if-has.false)
