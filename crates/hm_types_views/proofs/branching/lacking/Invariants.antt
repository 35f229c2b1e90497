use Rattle.std.proofs.Common.{◌≡◌, take}
use Rattle.hm_types_nodes.specs.Branching.{shapes_without}
use Rattle.hm_types_views.proofs.branching.lacking.Given as goal

abbrev pub invariant-loop-shape : goal.invariant-loop-shape
invariant-loop-shape l = l.kept.items ≡ shapes_without l.name (take l.shape-index l.shapes)
