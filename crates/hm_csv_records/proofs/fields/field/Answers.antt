use Rattle.std.proofs.Common.{sym, subst}
use Rattle.std.specs.Prelude.{IsUtf8, []}
use Rattle.csv.specs.Records.{fields_of}
use Rattle.hm_csv_records.proofs.ColumnLaws.{field_is, field_there}
use Rattle.hm_csv_records.proofs.fields.field.Goals as goal

pub unreachable-requires : goal.unreachable-requires
unreachable-requires c = field_there (fields_of c.args.row.now) c.args.place c.requires (rw c.in-None.is at c.get.ensures.value)

pub returns-clause-field : goal.returns-clause-field
returns-clause-field c = field_is (fields_of c.args.row.now) c.args.place c.in-Some.field.now (rw c.in-Some.is at c.get.ensures.value)

pub returns-clause-text : goal.returns-clause-text
returns-clause-text c = λ texts.
    subst IsUtf8 (sym (field_is (fields_of c.args.row.now) c.args.place c.in-Some.field.now (rw c.in-Some.is at c.get.ensures.value)))
    (texts c.args.place [] c.requires)
