use Rattle.std.proofs.Common.{take}
use Rattle.hm_changes_alike.specs.Below.{renewal}
use Rattle.hm_changes_alike.specs.Parents.{lent_paths}
use Rattle.hm_changes_alike.proofs.Gathered.{AreGathered}
use Rattle.hm_changes_alike.proofs.alikes.alikes_of.Given as goal

abbrev pub invariant-loop-parent : goal.invariant-loop-parent
invariant-loop-parent l = AreGathered (renewal l.fn.left) (renewal l.fn.right) (lent_paths (take l.parent-index l.parent-items)) l.sets.items
