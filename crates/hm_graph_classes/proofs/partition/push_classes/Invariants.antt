use Rattle.std.proofs.Common.{◌≡◌, ◌++◌, map, take}
use Rattle.hm_graph_classes.specs.Reduced.{class_at}
use Rattle.hm_graph_classes.proofs.partition.push_classes.Given as goal

abbrev pub invariant-loop-vertex : goal.invariant-loop-vertex
invariant-loop-vertex l = l.numbers.items ≡ l.initial.numbers.items ++ map (class_at l.classes) (take l.vertex-index l.vertices)
