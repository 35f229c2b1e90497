use Rattle.std.proofs.Common.{◌≡◌, Some, map, take}
use Rattle.csv.specs.Records.{fields_of}
use Rattle.hm_csv_records.specs.Rows.{column}
use Rattle.hm_csv_records.proofs.header.columns.Given as goal

abbrev pub invariant-loop-name : goal.invariant-loop-name
invariant-loop-name l = map (λ k. column k (fields_of l.header)) (take l.name-index l.names) ≡ map Some l.places.items
