use Rattle.std.proofs.Common.{◌≡◌, ◌≤◌, drop, map, take}
use Rattle.csv.specs.Records.{fields_of}
use Rattle.hm_csv.specs.Rewriting.{key_in}
use Rattle.hm_csv.proofs.writing.keys_of.Given as goal

abbrev pub invariant-loop-at : goal.invariant-loop-at
invariant-loop-at l = (l.keys.items ≡ map (key_in l.key) (drop 1 (map fields_of (take l.at l.rows)))) × (1 ≤ l.at)
