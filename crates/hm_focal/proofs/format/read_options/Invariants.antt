use Rattle.std.proofs.Common.{length, map}
use Rattle.hm_schema.specs.Values.{pair_value}
use Rattle.hm_focal.proofs.ReadUpTo.{IsReadUpTo}
use Rattle.hm_focal.proofs.Formats.{AreAllOptions}
use Rattle.hm_focal.proofs.format.read_options.Given as goal

abbrev pub invariant-loop-rest : goal.invariant-loop-rest
invariant-loop-rest l = IsReadUpTo AreAllOptions l.bytes (map pair_value l.pairs.items) l.rest

abbrev pub decreases-loop-rest : goal.decreases-loop-rest
decreases-loop-rest l = length l.rest
