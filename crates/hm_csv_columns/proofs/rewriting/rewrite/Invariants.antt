use Rattle.std.proofs.Common.{◌≡◌, take}
use Rattle.csv.specs.Records.{fields_of}
use Rattle.hm_csv_columns.specs.Records.{rewritten}
use Rattle.hm_csv_columns.proofs.rewriting.rewrite.Given as goal

abbrev pub invariant-loop-place : goal.invariant-loop-place
invariant-loop-place l = rewritten l.table.columns.items l.card (take l.place (fields_of l.row)) ≡ take l.place (fields_of l.row)
