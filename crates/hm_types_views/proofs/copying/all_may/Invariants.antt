use Rattle.std.proofs.Common.{All, take}
use Rattle.hm_types_views.specs.Conditions.{MayCopy}
use Rattle.hm_types_views.proofs.copying.all_may.Given as goal

abbrev pub invariant-loop-shape : goal.invariant-loop-shape
invariant-loop-shape l = All (MayCopy l.first l.second l.listed) (take l.shape-index l.shapes)
