use Rattle.std.proofs.Common.{◌≡◌, ◌++◌, not, take}
use Rattle.std.specs.List.{list_any, filter}
use Rattle.hm_types_nodes.specs.Merging.{same_shape}
use Rattle.hm_types_views.proofs.merging.push_rest.Given as goal

abbrev pub invariant-loop-shape : goal.invariant-loop-shape
invariant-loop-shape l = l.shapes.items ≡ l.initial.shapes.items ++ filter (λ b. not (list_any (same_shape b) l.others)) (take l.shape-index l.more)
