use Rattle.std.proofs.Common.{[], take}
use Rattle.hm_types_rules.specs.Numbering.{IsDistinct}
use Rattle.hm_types_schemas.proofs.Shapes.{HasShapes}
use Rattle.hm_types_schemas.proofs.distinct.first_ones.Given as goal

abbrev pub invariant-loop-shape : goal.invariant-loop-shape
invariant-loop-shape l = record {
  distinct : IsDistinct [] (take l.shape-index l.shapes) l.kept.items;
  seen : HasShapes l.seen l.kept.items;
}
