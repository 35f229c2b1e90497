use Rattle.hm_certify.proofs.ConflictPaths.{AscendUpTo}
use Rattle.hm_certify.proofs.marks.are_ascending.Given as goal

abbrev pub invariant-loop-at : goal.invariant-loop-at
invariant-loop-at l = AscendUpTo l.conflicts l.at
