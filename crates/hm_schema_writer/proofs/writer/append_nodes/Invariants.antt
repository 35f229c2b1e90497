use Rattle.std.proofs.Common.{◌≡◌, ◌++◌, drop, map}
use Rattle.std.specs.Prelude.{flat_map}
use Rattle.hm_schema.specs.Values.{node_value}
use Rattle.hm_schema_writer.specs.WrittenNodes.{declared_names, lines_under, ended_text, nodes_text}
use Rattle.hm_schema_writer.proofs.writer.append_nodes.Given as goal

abbrev pub invariant-loop-place : goal.invariant-loop-place
invariant-loop-place l =
    l.text.items ++ flat_map ended_text (lines_under l.names (declared_names (drop l.place l.names)) (map node_value (drop l.place l.nodes)))
    ≡ l.initial.text.items ++ nodes_text l.names (map node_value l.nodes)
