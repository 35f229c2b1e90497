use Rattle.std.proofs.Common.{sym, subst, ◌∙◌, arith}
use Rattle.hm_terms_cycles.specs.Calls.{ComesBackBadly}
use Rattle.hm_terms_cycles.proofs.Earliest.{known, known_below, known_closed, none_bad, first_bad}
use Rattle.hm_terms_cycles.proofs.first.first_in_bad_cycle.Goals as goal

pub callees-requires-clause-known : goal.callees-requires-clause-known
callees-requires-clause-known c =
    known_below _ _ _ _ (c.deref.ensures.value ∙ sym c.deref-2.ensures.value) c.deref-3.ensures.value c.in_ok-places.ensures

pub comes_back_badly-requires-clause-closed : goal.comes_back_badly-requires-clause-closed
comes_back_badly-requires-clause-closed c =
    known_closed c.args.program.now _ _ (known c.args.program.now _ _ _ _ _ c.deref.ensures.value c.in_ok-places.ensures c.deref-2.ensures.value
    c.deref-3.ensures.value c.in_ok-callees.ensures) _ c.deref-in-loop-place.ensures.value

pub returns-then-branch : goal.returns-then-branch
returns-then-branch c =
    first_bad c.args.program.now _ _ (known c.args.program.now _ _ _ _ _ c.deref.ensures.value c.in_ok-places.ensures c.deref-2.ensures.value
    c.deref-3.ensures.value c.in_ok-callees.ensures) c.loop-place.place c.loop-place.invariant
    (subst (λ g. ComesBackBadly g c.loop-place.place) c.deref-in-loop-place.ensures.value (c.in_ok-comes_back_badly.ensures.0 c.if-branch.true))

pub returns : goal.returns
returns c =
    none_bad c.args.program.now _ _ (known c.args.program.now _ _ _ _ _ c.deref.ensures.value c.in_ok-places.ensures c.deref-2.ensures.value
    c.deref-3.ensures.value c.in_ok-callees.ensures) c.loop-place.place (omega (arith, c.loop-place-test.false, c.len-place-end.ensures)) c.loop-place.invariant
