use Rattle.std.proofs.Common.{◌-◌, arith, ap, ◌∙◌}
use Rattle.hm_terms.specs.Programs.{lens_of}
use Rattle.hm_focal_terms.specs.Limits.{terms_of}
use Rattle.hm_focal_terms.proofs.Counts.{some_term, terms_of_each, room_left, no_room, room_next}
use Rattle.hm_focal_terms.proofs.count.+room_behind.Goals as goal

pub returns-then-room-eq0 : goal.returns-then-room-eq0
returns-then-room-eq0 t c = let s = some_term (lens_of c.args.term.now) in omega (arith, c.if-room-eq0.true)

pub returns-after-loop-term : goal.returns-after-loop-term
returns-after-loop-term t c =
    let w = ap (λ z. terms_of (lens_of z)) c.in-Each.is ∙ terms_of_each c.in-Each.terms c.deref-term-items.result.now c.deref-term-items.ensures.value in
    let r = room_left c.deref-term-items.result.now c.loop-term.term-index (c.args.room - 1) c.loop-term.left c.loop-term.invariant c.loop-term-test.false in
    omega (arith, w, r)

pub returns-in-None : goal.returns-in-None
returns-in-None t c =
    let w = ap (λ z. terms_of (lens_of z)) c.in-Each.is ∙ terms_of_each c.in-Each.terms c.deref-term-items.result.now c.deref-term-items.ensures.value in
    let r = no_room c.deref-term-items.result.now c.loop-term.term-index (c.args.room - 1) c.loop-term.left c.loop-term.invariant c.loop-term-test.true
    c.term-item.result c.term-item.is c.in-None.ensures in
    omega (arith, w, r)

pub loop-term-preserved : goal.loop-term-preserved
loop-term-preserved t c =
    room_next c.deref-term-items.result.now c.loop-term.term-index (c.args.room - 1) c.loop-term.left c.loop-term.invariant c.loop-term-test.true
    c.term-item.result c.term-item.is c.in-Some.rest c.in-Some.ensures
