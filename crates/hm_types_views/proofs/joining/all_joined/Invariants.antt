use Rattle.std.proofs.Common.{◌≡◌, take}
use Rattle.hm_types_nodes.specs.Joining.{joined_shapes}
use Rattle.hm_types_views.proofs.joining.all_joined.Given as goal

abbrev pub invariant-loop-one : goal.invariant-loop-one
invariant-loop-one l = l.shapes.items ≡ joined_shapes (take l.one-index l.ones) l.twos
