use Rattle.std.proofs.Common.{take}
use Rattle.hm_schema_lines.specs.Entries.{entry_values}
use Rattle.hm_schema_lines.specs.BadLines.{SpeaksOfOthers}
use Rattle.hm_schema_lines.proofs.build.first_other.Given as goal

abbrev pub invariant-loop-entry : goal.invariant-loop-entry
invariant-loop-entry l = ¬ (SpeaksOfOthers (entry_values (take l.entry-index l.lines)))
