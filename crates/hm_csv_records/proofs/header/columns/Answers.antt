use Rattle.std.proofs.Common.{◌∙◌, sym}
use Rattle.csv.specs.Records.{fields_of}
use Rattle.hm_csv_records.proofs.ColumnLaws.{place_more, is_wanted, lacks}
use Rattle.hm_csv_records.proofs.header.columns.Goals as goal

pub loop-name-preserved : goal.loop-name-preserved
loop-name-preserved c =
    let wanted = is_wanted c.args.names.now c.loop-name.name-index c.name-item.result c.in_ok-wanted.wanted c.loop-name-test.true c.name-item.is c.in_ok-wanted.ensures in
    place_more (fields_of c.args.header.now) c.args.names.now c.loop-name.name-index c.loop-name.places.items c.push.new.self.items c.in-Some.place.now
    c.name-item.result c.loop-name-test.true c.loop-name.invariant c.name-item.is
    (sym (c.in_ok-titles.ensures c.name-item.result wanted) ∙ sym (rw c.in-Some.is at c.get.ensures.value)) c.in_ok-push.ensures.items

pub returns-in_default : goal.returns-in_default
returns-in_default c =
    let wanted = is_wanted c.args.names.now c.loop-name.name-index c.name-item.result c.in_ok-wanted.wanted c.loop-name-test.true c.name-item.is c.in_ok-wanted.ensures in
    lacks (fields_of c.args.header.now) c.args.names.now c.loop-name.name-index c.name-item.result c.loop-name-test.true c.name-item.is
    (sym (c.in_ok-titles.ensures c.name-item.result wanted) ∙ sym (rw c.in_default.is at c.get.ensures.value))
