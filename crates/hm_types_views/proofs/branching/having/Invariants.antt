use Rattle.std.proofs.Common.{◌≡◌, take}
use Rattle.hm_types_nodes.specs.Branching.{shapes_with}
use Rattle.hm_types_views.proofs.branching.having.Given as goal

abbrev pub invariant-loop-shape : goal.invariant-loop-shape
invariant-loop-shape l = l.kept.items ≡ shapes_with l.name (take l.shape-index l.shapes)
