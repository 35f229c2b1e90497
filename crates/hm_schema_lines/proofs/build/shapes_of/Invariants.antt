use Rattle.std.proofs.Common.{◌≡◌, ◌++◌, drop, filter_map}
use Rattle.hm_schema_lines.specs.Entries.{entry_values}
use Rattle.hm_schema_lines.specs.Building.{shape_of}
use Rattle.hm_schema_lines.proofs.build.shapes_of.Given as goal

abbrev pub invariant-loop-entry : goal.invariant-loop-entry
invariant-loop-entry l =
    filter_map shape_of (entry_values l.lines)
    ≡ l.shapes.items ++ filter_map shape_of (entry_values (drop l.entry-index l.lines))
