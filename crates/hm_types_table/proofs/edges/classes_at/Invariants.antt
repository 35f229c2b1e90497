use Rattle.std.proofs.Common.{◌≡◌, map, take}
use Rattle.hm_graph_classes.specs.Reduced.{class_at}
use Rattle.hm_types_table.proofs.edges.classes_at.Given as goal

abbrev pub invariant-loop-place : goal.invariant-loop-place
invariant-loop-place l = l.at.items ≡ map (class_at l.classes) (take l.place-index l.places)
