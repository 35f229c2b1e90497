use Rattle.std.proofs.Common.{length}
use Rattle.hm_focal_terms.proofs.Sets.{IsRead}
use Rattle.hm_focal_terms.proofs.names.read_set.Given as goal

abbrev pub invariant-names : goal.invariant-names
invariant-names l = IsRead l.initial.left l.names.items l.left

abbrev pub decreases-names : goal.decreases-names
decreases-names l = length l.left
