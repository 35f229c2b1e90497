use Rattle.std.proofs.Common.{◌≡◌, take}
use Rattle.std.specs.Prelude.{IsTrue}
use Rattle.std.specs.BTreeMap.{get}
use Rattle.std.specs.FinSet.{contains}
use Rattle.csv.specs.Records.{fields_of}
use Rattle.hm_tree.specs.Names.{Name, name_cmp}
use Rattle.hm_csv_records.specs.Rows.{column}
use Rattle.hm_csv_records.proofs.header.titles.Given as goal

abbrev pub invariant-loop-place : goal.invariant-loop-place
invariant-loop-place l = (k : Name) → IsTrue (contains l.wanted k) → get name_cmp l.titles k ≡ column k (take l.place (fields_of l.header))
