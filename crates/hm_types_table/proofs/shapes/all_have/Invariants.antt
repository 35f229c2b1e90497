use Rattle.std.proofs.Common.{All, take}
use Rattle.hm_types_table.specs.Shapes.{HasAll}
use Rattle.hm_types_table.proofs.shapes.all_have.Given as goal

abbrev pub invariant-loop-shape : goal.invariant-loop-shape
invariant-loop-shape l = All (HasAll l.names l.inside) (take l.shape-index l.shapes)
