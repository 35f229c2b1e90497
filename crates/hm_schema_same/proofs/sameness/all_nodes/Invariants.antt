use Rattle.std.proofs.Common.{◌≡◌, ◌++◌, map, take}
use Rattle.hm_schema.specs.Values.{node_value}
use Rattle.hm_schema_same.proofs.sameness.all_nodes.Given as goal

abbrev pub invariant-loop-node : goal.invariant-loop-node
invariant-loop-node l = map (λ node. node_value node.now) l.nodes.items ≡ map node_value (take l.node-index l.node-items)

abbrev pub invariant-loop-node-2 : goal.invariant-loop-node-2
invariant-loop-node-2 l = map (λ node. node_value node.now) l.nodes.items ≡ l.one.nodes ++ map node_value (take l.node-index l.node-items)
