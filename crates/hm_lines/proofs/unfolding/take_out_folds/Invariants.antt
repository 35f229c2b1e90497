use Rattle.std.proofs.Common.{◌≡◌, ◌++◌, length}
use Rattle.hm_lines.specs.Unfolding.{unfolded}
use Rattle.hm_lines.proofs.unfolding.take_out_folds.Given as goal

abbrev pub decreases-loop-at : goal.decreases-loop-at
decreases-loop-at l = length l.rest

abbrev pub invariant-loop-at : goal.invariant-loop-at
invariant-loop-at l = l.made.items ++ unfolded l.rest ≡ unfolded l.folded
