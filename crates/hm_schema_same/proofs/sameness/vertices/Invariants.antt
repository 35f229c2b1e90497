use Rattle.std.proofs.Common.{map}
use Rattle.hm_schema.specs.Values.{node_value}
use Rattle.hm_schema_same.proofs.JointGraphs.{AreVertices}
use Rattle.hm_schema_same.proofs.sameness.vertices.Given as goal

abbrev pub invariant-loop-i : goal.invariant-loop-i
invariant-loop-i l = AreVertices (map (λ node. node_value node.now) l.nodes) l.labels l.count l.i l.graph.items
