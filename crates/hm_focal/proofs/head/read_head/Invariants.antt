use Rattle.std.proofs.Common.{length}
use Rattle.hm_focal.specs.OwnLines.{IsHeaded}
use Rattle.hm_focal.proofs.ReadUpTo.{IsReadUpTo}
use Rattle.hm_focal.proofs.head.read_head.Given as goal

abbrev pub invariant-loop-behind : goal.invariant-loop-behind
invariant-loop-behind l = IsReadUpTo IsHeaded l.line l.words.items l.rest

abbrev pub decreases-loop-behind : goal.decreases-loop-behind
decreases-loop-behind l = length l.rest
