use Rattle.hm_terms_cycles.proofs.Earliest.{NoneBefore}
use Rattle.hm_terms_cycles.proofs.first.first_in_bad_cycle.Given as goal

abbrev pub invariant-loop-place : goal.invariant-loop-place
invariant-loop-place l = NoneBefore l.callees.items l.place
