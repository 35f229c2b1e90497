use Rattle.std.proofs.Common.{◌≡◌, map}
use Rattle.csv.specs.Records.{fields_of}
use Rattle.hm_csv.specs.Tables.{column_for}
use Rattle.hm_csv.proofs.opening.columns_in.Given as goal

abbrev pub invariant-loop-name : goal.invariant-loop-name
invariant-loop-name l = l.columns.items ≡ map (column_for (fields_of l.header)) l.yielded
