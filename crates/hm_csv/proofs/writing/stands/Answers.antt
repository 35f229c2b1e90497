use Rattle.std.proofs.Common.{◌≡◌, map, slice_get, Some, sym, subst, arith}
use Rattle.std.specs.Prelude.{IsTrue, ◌↔◌}
use Rattle.std.proofs.lemmas.List.{length-map}
use Rattle.csv.specs.Records.{fields_of}
use Rattle.hm_csv_records.specs.Rows.{Fields}
use Rattle.hm_csv.proofs.Slots.{row_at}
use Rattle.hm_csv.proofs.Appended.{stands_there}
use Rattle.hm_csv.proofs.writing.stands.Goals as goal

pub returns-then-from-at : goal.returns-then-from-at
returns-then-from-at c =
    let lt = c.requires in
    let long = length-map c.args.rows.now fields_of in
    stands_there (map fields_of c.args.rows.now) c.args.from c.args.at (omega (arith, lt, long)) c.if-from-at.true

pub returns : goal.returns
returns c =
    subst (λ (r : Fields). IsTrue c.is_record.result ↔ (slice_get (map fields_of c.args.rows.now) c.args.at ≡ Some r))
    (sym (row_at c.args.rows.now c.args.from c.index-rows-from.result c.index-rows-from.result c.requires c.index-rows-from.is)) c.is_record.ensures
