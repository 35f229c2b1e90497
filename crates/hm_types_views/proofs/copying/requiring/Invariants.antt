use Rattle.std.proofs.Common.{◌≡◌, map, take}
use Rattle.hm_types_nodes.specs.Copying.{with_required}
use Rattle.hm_types_views.proofs.copying.requiring.Given as goal

abbrev pub invariant-loop-shape : goal.invariant-loop-shape
invariant-loop-shape l = l.all.items ≡ map (with_required l.name) (take l.shape-index l.shapes)
