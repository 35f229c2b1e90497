use Rattle.std.proofs.Common.{map}
use Rattle.hm_schema.specs.Values.{node_value}
use Rattle.hm_schema_lines.specs.Entries.{entry_values}
use Rattle.hm_schema_lines.specs.Building.{id_in, AreBuilt}
use Rattle.hm_schema_lines.proofs.build.build_declared.Given as goal

abbrev pub invariant-loop-place : goal.invariant-loop-place
invariant-loop-place l = AreBuilt (id_in l.declared l.count) (entry_values l.entries) l.place (map node_value l.nodes.items)
