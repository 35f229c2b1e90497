use Rattle.std.proofs.Common.{◌≡◌, ◌++◌, drop, map}
use Rattle.std.specs.Prelude.{flat_map}
use Rattle.hm_schema_writer.specs.WrittenNodes.{shape_line, ended_text}
use Rattle.hm_schema_writer.proofs.writer.put_shapes.Given as goal

abbrev pub invariant-loop-shape : goal.invariant-loop-shape
invariant-loop-shape l =
    l.text.items ++ flat_map ended_text (map shape_line (drop l.shape-index l.shapes))
    ≡ l.initial.text.items ++ flat_map ended_text (map shape_line l.shapes)
