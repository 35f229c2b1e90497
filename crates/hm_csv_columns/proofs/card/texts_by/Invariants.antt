use Rattle.std.proofs.Common.{◌≡◌, take}
use Rattle.csv.specs.Records.{fields_of}
use Rattle.hm_csv_columns.specs.Records.{texts_by}
use Rattle.hm_csv_columns.proofs.card.texts_by.Given as goal

abbrev pub invariant-loop-column : goal.invariant-loop-column
invariant-loop-column l = l.texts.items ≡ texts_by (take l.column-index l.columns) (fields_of l.row)
