use Rattle.std.proofs.Common.{All, take}
use Rattle.hm_schema.specs.Shapes.{IsShut}
use Rattle.hm_types_table.proofs.shapes.all_shut.Given as goal

abbrev pub invariant-loop-shape : goal.invariant-loop-shape
invariant-loop-shape l = All IsShut (take l.shape-index l.shapes)
