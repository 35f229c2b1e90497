use Rattle.hm_certify.proofs.Verdicts.{is_not, says_no}
use Rattle.hm_certify.proofs.ConflictPaths.{marks_all, marks_number}
use Rattle.hm_certify.proofs.marks.are_at_marks.Goals as goal

pub returns-then-not-all_topmost : goal.returns-then-not-all_topmost
returns-then-not-all_topmost c =
    is_not (λ h. says_no c.all_topmost.ensures c.if-not-all_topmost.true (marks_all c.args.archive.now c.args.conflicts.now h))

pub returns : goal.returns
returns c = marks_number c.args.archive.now c.args.conflicts.now _ (c.are_ascending.ensures.0 c.if-not-are_ascending.false)
    (c.all_topmost.ensures.0 c.if-not-all_topmost.false) c.has_marks.ensures
