use Rattle.std.proofs.Common.{arith, false}
use Rattle.std.proofs.lemmas.Option.{slice_get-get_or}
use Rattle.hm_types_terms.proofs.PartLists.{copy_found, copy_missing, none_next}
use Rattle.hm_types_terms.proofs.part.first_copy.Goals as goal

pub returns-then-parts-place : goal.returns-then-parts-place
returns-then-parts-place c l is =
    copy_found l c.args.parts.now is c.loop-place.place _ (slice_get-get_or c.args.parts.now c.loop-place.place (record { size = 0; copies = false }) c.loop-place-test.true)
    c.if-parts-place.true c.loop-place.invariant

pub loop-place-preserved : goal.loop-place-preserved
loop-place-preserved c =
    none_next c.args.parts.now c.loop-place.place _ (slice_get-get_or c.args.parts.now c.loop-place.place (record { size = 0; copies = false }) c.loop-place-test.true)
    c.if-parts-place.false c.loop-place.invariant

pub returns : goal.returns
returns c l is = copy_missing l c.args.parts.now is (λ j p lt e. c.loop-place.invariant j p (omega (arith, lt, c.loop-place-test.false)) e)
