use Rattle.std.proofs.Common.{arith, ◌≤◌, length, map}
use Rattle.std.proofs.lemmas.List.{length-map}
use Rattle.csv.specs.Records.{fields_of}
use Rattle.hm_csv.proofs.Keys.{item_more, keyed_more, keyless_here, all_keyed}
use Rattle.hm_csv.proofs.reading.items.Goals as goal

pub returns-in-None-clause-keyless : goal.returns-in-None-clause-keyless
returns-in-None-clause-keyless c =
    keyless_here c.args.key c.args.columns.now c.args.rows.now c.loop-place.place c.index-rows-place.result c.loop-place-test.true c.index-rows-place.is
    c.loop-place.invariant.keyed (rw c.in-None.is at c.in_ok-item.ensures)

pub loop-place-preserved : goal.loop-place-preserved
loop-place-preserved c =
    let row = c.index-rows-place.result in
    let found = rw c.in-Some.is at c.in_ok-item.ensures in
    record {
      are = item_more c.args.key c.args.columns.now c.args.rows.now c.loop-place.place row c.loop-place-test.true c.index-rows-place.is
          c.loop-place.items.items c.push.new.self.items c.in-Some.item c.loop-place.invariant.are found c.in_ok-push-in-Some.ensures.items;
      keyed = keyed_more c.args.key c.args.columns.now c.args.rows.now c.loop-place.place row c.loop-place-test.true c.index-rows-place.is
          c.loop-place.invariant.keyed found.0;
    }

pub returns-clause-keyed : goal.returns-clause-keyed
returns-clause-keyed c =
    let done = c.loop-place-test.false in
    let long = length-map c.args.rows.now fields_of in
    let end : length (map fields_of c.args.rows.now) ≤ c.loop-place.place = omega (arith, done, long) in
    all_keyed c.args.key (map fields_of c.args.rows.now) c.loop-place.place end c.loop-place.invariant.keyed
