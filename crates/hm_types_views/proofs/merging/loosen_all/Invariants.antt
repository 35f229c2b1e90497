use Rattle.std.proofs.Common.{◌≡◌, cond, map, take}
use Rattle.std.specs.List.{list_any}
use Rattle.hm_types_nodes.specs.Merging.{same_shape, unrequired, loosened}
use Rattle.hm_types_views.proofs.merging.loosen_all.Given as goal

abbrev pub invariant-loop-shape : goal.invariant-loop-shape
invariant-loop-shape l = l.all.items ≡ map (λ a. cond (list_any (same_shape (unrequired l.name a)) l.others) (loosened l.name a) a) (take l.shape-index l.shapes)
