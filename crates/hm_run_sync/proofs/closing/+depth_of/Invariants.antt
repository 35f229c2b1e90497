use Rattle.std.proofs.Common.{◌≡◌, take}
use denote.Param.Weighed.{most}
use Rattle.hm_tree.specs.Archives.{edges_here}
use Rattle.hm_run_sync.proofs.ArchiveDepths.{under_edge}
use Rattle.hm_run_sync.proofs.closing.+depth_of.Given as goal

abbrev pub invariant-loop-place : goal.invariant-loop-place
invariant-loop-place l = l.deep ≡ most under_edge (take l.place (edges_here l.archive))

abbrev pub decreases-depth_of : goal.decreases-depth_of
decreases-depth_of l = goal.size-depth_of l
