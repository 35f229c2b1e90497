use Rattle.std.proofs.Common.{◌≡◌, map, take}
use Rattle.std.specs.Prelude.{All}
use Rattle.csv.specs.Records.{fields_of}
use Rattle.hm_csv.specs.Reading.{item_by, IsKeyed}
use Rattle.hm_csv.proofs.reading.items.Given as goal

abbrev pub invariant-loop-place : goal.invariant-loop-place
invariant-loop-place l = record {
  are : l.items.items ≡ map (item_by l.key l.columns) (take l.place (map fields_of l.rows));
  keyed : All (IsKeyed l.key) (take l.place (map fields_of l.rows));
}
