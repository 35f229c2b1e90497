use Rattle.std.proofs.Common.{◌≡◌, []}
use Rattle.csv.specs.Records.{fields_of, partial_of}
use Rattle.hm_csv_columns.specs.Records.{blank}
use Rattle.hm_csv_columns.proofs.rewriting.blank.Given as goal

abbrev pub invariant-loop-at : goal.invariant-loop-at
invariant-loop-at l = (fields_of l.new ≡ blank l.place l.key l.at) × (partial_of l.new ≡ [])
