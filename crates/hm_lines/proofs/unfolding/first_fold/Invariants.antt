use Rattle.std.proofs.Common.{◌≤◌, ◌-◌, length}
use Rattle.memchr.specs.Find.{Nowhere}
use Rattle.hm_lines.specs.Unfolding.{IsFold}
use Rattle.hm_lines.proofs.unfolding.first_fold.Given as goal

abbrev pub decreases-loop-ahead : goal.decreases-loop-ahead
decreases-loop-ahead l = length l.bytes - l.from

abbrev pub invariant-loop-ahead : goal.invariant-loop-ahead
invariant-loop-ahead l = record {
  within : l.from ≤ length l.bytes;
  none : Nowhere (IsFold l.bytes) 0 l.from;
}
