use Rattle.std.proofs.Common.{◌≡◌, ◌++◌, map, take}
use Rattle.hm_types_nodes.specs.Joining.{joined_shape}
use Rattle.hm_types_views.proofs.joining.push_joined.Given as goal

abbrev pub invariant-loop-two : goal.invariant-loop-two
invariant-loop-two l = l.shapes.items ≡ l.initial.shapes.items ++ map (joined_shape l.one) (take l.two-index l.twos)
