use Rattle.hm_schema_lines.specs.Entries.{entry_values}
use Rattle.hm_focal.specs.OwnLines.{own_values}
use Rattle.hm_focal.proofs.Placing.{IsReadTo}
use Rattle.hm_focal.proofs.lines.read_lines.Given as goal

abbrev pub invariant-loop-line : goal.invariant-loop-line
invariant-loop-line l = IsReadTo l.initial.line-iterator l.line-iterator (entry_values l.entries.items) (own_values l.own.items) l.stage
