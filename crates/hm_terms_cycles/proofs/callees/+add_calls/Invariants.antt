use Rattle.hm_terms_cycles.proofs.Rows.{IsWalk}
use Rattle.hm_terms_cycles.proofs.callees.+add_calls.Given as goal

abbrev pub invariant-loop-i : goal.invariant-loop-i
invariant-loop-i l = IsWalk l.places l.sequence l.named-items l.i l.initial.set l.set l.names.items
