use Rattle.std.proofs.Common.{◌≡◌, map, take}
use Rattle.hm_schema.specs.declared.node.NodeId.{NodeId}
use Rattle.hm_types_table.specs.Classes.{left}
use Rattle.hm_types_table.proofs.edges.edges_left.Given as goal

abbrev pub invariant-loop-place : goal.invariant-loop-place
invariant-loop-place l =
    l.edges.items ≡ map (λ (j : NodeId). j.place) (left l.outline.lets_in (take l.place l.outline.standing.items) (take l.place l.next))
