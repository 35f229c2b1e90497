use Rattle.std.proofs.Common.{arith}
use Rattle.hm_tree.specs.States.{state}
use Rattle.hm_safety.specs.Safety.{IsTopmostMark}
use Rattle.hm_certify.proofs.Verdicts.{is_so}
use Rattle.hm_certify.proofs.ConflictPaths.{one_more_holds, all_hold}
use Rattle.hm_certify.proofs.marks.all_topmost.Goals as goal

pub loop-conflict-preserved : goal.loop-conflict-preserved
loop-conflict-preserved c =
    one_more_holds (λ x. IsTopmostMark (state c.args.archive.now) x.path) c.args.conflicts.now c.loop-conflict.conflict-index
    c.conflict-item.result (omega arith) c.conflict-item.is
    c.loop-conflict.invariant (c.is_topmost.ensures.0 c.if-not-is_topmost.false)

pub returns : goal.returns
returns c = is_so (all_hold (λ x. IsTopmostMark (state c.args.archive.now) x.path) c.args.conflicts.now c.loop-conflict.conflict-index
    (omega arith) c.loop-conflict.invariant)
