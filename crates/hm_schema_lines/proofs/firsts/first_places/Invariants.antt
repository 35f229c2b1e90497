use Rattle.std.proofs.Common.{take}
use Rattle.hm_schema_lines.specs.Entries.{entry_values}
use Rattle.hm_schema_lines.proofs.Places.{ArePlaced}
use Rattle.hm_schema_lines.proofs.firsts.first_places.Given as goal

abbrev pub invariant-loop-entry : goal.invariant-loop-entry
invariant-loop-entry l = ArePlaced l.naming (entry_values (take l.entry-index l.entries)) l.firsts l.place
