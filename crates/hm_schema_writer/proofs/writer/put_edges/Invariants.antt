use Rattle.std.proofs.Common.{◌≡◌, ◌++◌, drop, map}
use Rattle.std.specs.Prelude.{flat_map}
use Rattle.hm_schema_writer.specs.WrittenNodes.{edge_line, ended_text}
use Rattle.hm_schema_writer.proofs.writer.put_edges.Given as goal

abbrev pub invariant-loop-child : goal.invariant-loop-child
invariant-loop-child l =
    l.text.items ++ flat_map ended_text (map (edge_line l.names) (drop l.child-index l.children))
    ≡ l.initial.text.items ++ flat_map ended_text (map (edge_line l.names) l.children)
