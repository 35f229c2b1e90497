use Rattle.std.proofs.Common.{◌≡◌, map, take}
use Rattle.hm_types_nodes.specs.Merging.{unrequired}
use Rattle.hm_types_views.proofs.hiding.unrequiring.Given as goal

abbrev pub invariant-loop-shape : goal.invariant-loop-shape
invariant-loop-shape l = l.all.items ≡ map (unrequired l.name) (take l.shape-index l.shapes)
