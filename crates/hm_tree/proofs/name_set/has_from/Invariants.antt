use Rattle.std.proofs.Common.{◌-◌, length}
use Rattle.hm_tree.specs.Sets.{ArePassed}
use Rattle.hm_tree.proofs.name_set.has_from.Given as goal

abbrev pub invariant-loop-at : goal.invariant-loop-at
invariant-loop-at l = ArePassed l.names l.at l.name

abbrev pub decreases-loop-at : goal.decreases-loop-at
decreases-loop-at l = length l.names - l.at
