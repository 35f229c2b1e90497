use Rattle.std.proofs.Common.{◌≡◌, take}
use Rattle.std.specs.List.{filter}
use Rattle.hm_types_nodes.specs.Parting.{has_twin}
use Rattle.hm_types_views.proofs.parting.twins_of.Given as goal

abbrev pub invariant-loop-twin : goal.invariant-loop-twin
invariant-loop-twin l = l.kept.items ≡ filter (has_twin l.shape) (take l.twin-index l.twins)
