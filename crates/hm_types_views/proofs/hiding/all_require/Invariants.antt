use Rattle.std.proofs.Common.{All, take}
use Rattle.hm_schema.specs.Shapes.{Requires}
use Rattle.hm_types_views.proofs.hiding.all_require.Given as goal

abbrev pub invariant-loop-shape : goal.invariant-loop-shape
invariant-loop-shape l = All (Requires l.name) (take l.shape-index l.shapes)
