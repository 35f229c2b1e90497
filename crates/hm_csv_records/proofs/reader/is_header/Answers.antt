use Rattle.csv.specs.Records.{fields_of}
use Rattle.hm_csv_records.proofs.ColumnLaws.{decides}
use Rattle.hm_csv_records.proofs.reader.is_header.Goals as goal

pub returns : goal.returns
returns c =
    decides c.args.names.now (fields_of c.args.row.now) c.in_ok-columns.field-0 c.is_some.result c.is_marked.result c.is_marked.ensures c.if-is_marked.false
    c.in_ok-columns.ensures c.is_some.ensures
