use Rattle.std.proofs.Common.{arith}
use Rattle.hm_certify.proofs.Verdicts.{is_so, is_not, says_no}
use Rattle.hm_certify.proofs.ConflictPaths.{ascend_more, ascend_not, ascend_all}
use Rattle.hm_certify.proofs.marks.are_ascending.Goals as goal

pub returns-then-not-is_before : goal.returns-then-not-is_before
returns-then-not-is_before c = is_not (
    ascend_not c.args.conflicts.now c.loop-at.at c.index-conflicts-at.result c.index-conflicts-at-in-loop-at.result (omega arith) (omega arith)
    (says_no c.is_before.ensures c.if-not-is_before.true))

pub loop-at-preserved : goal.loop-at-preserved
loop-at-preserved c =
    ascend_more c.args.conflicts.now c.loop-at.at c.index-conflicts-at.result c.index-conflicts-at-in-loop-at.result (omega arith) (omega arith)
    c.loop-at.invariant (c.is_before.ensures.0 c.if-not-is_before.false)

pub returns : goal.returns
returns c = is_so (ascend_all c.args.conflicts.now c.loop-at.at (omega arith) c.loop-at.invariant)
