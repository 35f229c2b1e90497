use Rattle.std.proofs.Common.{◌≡◌, ◌++◌, drop, filter_map}
use Rattle.hm_schema_lines.specs.Entries.{entry_values}
use Rattle.hm_schema_lines.specs.Building.{id_in, child_of}
use Rattle.hm_schema_lines.proofs.build.children_of.Given as goal

abbrev pub invariant-loop-entry : goal.invariant-loop-entry
invariant-loop-entry l =
    filter_map (child_of (id_in l.declared l.count)) (entry_values l.lines)
    ≡ l.children.items ++ filter_map (child_of (id_in l.declared l.count)) (entry_values (drop l.entry-index l.lines))
