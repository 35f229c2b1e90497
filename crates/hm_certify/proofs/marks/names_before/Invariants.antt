use Rattle.std.proofs.Common.{◌≤◌, length}
use Rattle.hm_certify.proofs.PathOrder.{SameUpTo}
use Rattle.hm_certify.proofs.marks.names_before.Given as goal

abbrev pub invariant-loop-at : goal.invariant-loop-at
invariant-loop-at l = record {
  same : SameUpTo l.one l.other l.at;
  within : l.at ≤ length l.other;
}
