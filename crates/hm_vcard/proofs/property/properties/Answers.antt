use Rattle.hm_vcard.proofs.LentLines.{other_at, ends_past, counted_more, front_more, each_more}
use Rattle.hm_vcard.proofs.property.properties.Goals as goal

pub returns-in-None-clause-all : goal.returns-in-None-clause-all
returns-in-None-clause-all c =
    other_at c.args.lines.now c.loop-place.place _ c.loop-place-test.true _ c.loop-place.invariant.counted c.in-None.ensures

pub loop-place-preserved : goal.loop-place-preserved
loop-place-preserved c =
    let found = c.loop-place.found.items in
    let pushed = c.in_ok-push-in-Some.ensures.items in
    record {
      counted = counted_more c.args.lines.now c.loop-place.place _ c.loop-place-test.true found _ c.in-Some.line pushed c.in-Some.ensures c.loop-place.invariant.counted;
      front = front_more c.args.lines.now c.loop-place.place _ c.loop-place-test.true found _ c.in-Some.line pushed c.in-Some.ensures c.loop-place.invariant.front;
      each = each_more c.args.lines.now c.loop-place.place _ c.loop-place-test.true found _ c.in-Some.line pushed c.in-Some.ensures c.loop-place.invariant.each;
    }

pub returns-clause-all : goal.returns-clause-all
returns-clause-all c = ends_past c.args.lines.now c.loop-place.place _ c.loop-place.invariant.counted c.loop-place-test.false
