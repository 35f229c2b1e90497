use Rattle.std.proofs.Common.{length}
use Rattle.hm_schema_lines.specs.Entries.{entry_values}
use Rattle.hm_focal.specs.OwnLines.{own_values}
use Rattle.hm_focal.proofs.Taking.{IsTakenTo}
use Rattle.hm_focal.proofs.program.build_parts.Given as goal

abbrev pub invariant-loop-line : goal.invariant-loop-line
invariant-loop-line l = IsTakenTo (entry_values l.entries) (own_values l.fn.own.items) (own_values l.rest.items) l.parts

abbrev pub decreases-loop-line : goal.decreases-loop-line
decreases-loop-line l = length l.rest.items
