use Rattle.std.proofs.Common.{take}
use Rattle.hm_lines_files.specs.Lent.{texts, pieces_of}
use Rattle.hm_ical.specs.Lent.{place_of}
use Rattle.hm_ical.proofs.Soundness.{runs_sound}
use Rattle.hm_ical.proofs.LentRuns.{run_push, not_all}
use Rattle.hm_ical.proofs.Places.{at_end}
use Rattle.hm_ical.proofs.layout.pieces.Goals as goal

pub step-requires : goal.step-requires
step-requires c =
    runs_sound c.args.singles.now (take c.loop-place.place (texts c.args.lines.now)) (pieces_of c.loop-place.pieces.items) (place_of c.loop-place.at) c.loop-place.invariant

pub loop-place-preserved : goal.loop-place-preserved
loop-place-preserved c =
    run_push c.args.singles.now c.args.lines.now c.loop-place.place _ c.loop-place-test.true (pieces_of c.loop-place.pieces.items) (pieces_of c.step.new.pieces.items)
    (place_of c.loop-place.at) (place_of c.step.new.at) c.loop-place.invariant (rw c.if-not-branch.false at c.in_ok-step.ensures)

pub returns : goal.returns
returns c = record {
  pieces = tt;
  stop = not_all c.args.singles.now c.args.lines.now c.loop-place.place (pieces_of c.loop-place.pieces.items) (place_of c.loop-place.at) c.loop-place-test.false
      c.loop-place.invariant (λ e. c.in_default.not-Behind (at_end c.loop-place.at e));
}
