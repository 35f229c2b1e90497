use Rattle.std.proofs.Common.{length}
use Rattle.hm_focal.specs.OwnLines.{AreEdges}
use Rattle.hm_focal.proofs.ReadUpTo.{IsReadUpTo}
use Rattle.hm_focal.proofs.format.read_edges.Given as goal

abbrev pub invariant-loop-names : goal.invariant-loop-names
invariant-loop-names l = IsReadUpTo AreEdges l.bytes l.names.items l.rest

abbrev pub decreases-loop-names : goal.decreases-loop-names
decreases-loop-names l = length l.rest
