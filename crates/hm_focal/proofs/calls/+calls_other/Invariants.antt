use Rattle.hm_focal.proofs.Called.{NoneBefore}
use Rattle.hm_focal.proofs.calls.+calls_other.Given as goal

abbrev pub invariant-loop-term : goal.invariant-loop-term
invariant-loop-term l = NoneBefore l.lenses l.term-items l.term-index
