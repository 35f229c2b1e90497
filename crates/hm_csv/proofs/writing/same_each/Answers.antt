use Rattle.std.proofs.Common.{rules, sym}
use Rattle.csv.specs.Records.{fields_of}
use Rattle.hm_csv.proofs.Slots.{same_more}
use Rattle.hm_csv.proofs.writing.same_each.Goals as goal

pub loop-place-preserved : goal.loop-place-preserved
loop-place-preserved c =
    same_more (fields_of c.args.one.now) (fields_of c.args.other.now) c.loop-place.place c.field.result.now c.field-in-loop-place.result.now
    (rw (sym c.len-place-end.ensures) c.loop-place-test.true) c.requires c.loop-place.invariant c.field.ensures.field c.field-in-loop-place.ensures.field (let e = c.ne.ensures in let f = c.if-ne.false in search rules)
