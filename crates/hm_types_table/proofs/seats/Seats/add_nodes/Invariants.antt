use Rattle.std.proofs.Common.{map, take}
use Rattle.hm_schema.specs.Values.{node_value}
use Rattle.hm_types_table.specs.Tables.{AreShifted}
use Rattle.hm_types_table.proofs.seats.Seats.add_nodes.Given as goal

abbrev pub invariant-loop-node : goal.invariant-loop-node
invariant-loop-node l = AreShifted l.first l.by l.kinds.items l.vertices.items (map node_value (take l.node-index l.nodes))
