use Rattle.std.proofs.Common.{◌≡◌, take}
use Rattle.hm_schema_lines.specs.Entries.{entry_values}
use Rattle.hm_schema_lines.specs.Firsts.{node_names}
use Rattle.hm_focal.proofs.program.declared_names.Given as goal

abbrev pub invariant-loop-entry : goal.invariant-loop-entry
invariant-loop-entry l = l.names.items ≡ node_names (entry_values (take l.entry-index l.entries))
