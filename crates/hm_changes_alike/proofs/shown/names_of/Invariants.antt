use Rattle.std.proofs.Common.{length, ◌+◌, map}
use Rattle.hm_changes_alike.proofs.Uniting.{AreUniting}
use Rattle.hm_changes_alike.proofs.shown.names_of.Given as goal

abbrev pub decreases-loop-taken : goal.decreases-loop-taken
decreases-loop-taken l = length l.ones + length l.others

abbrev pub invariant-loop-taken : goal.invariant-loop-taken
invariant-loop-taken l = AreUniting l.initial.ones l.initial.others l.ones l.others (map (λ n. n.now) l.names.items)
