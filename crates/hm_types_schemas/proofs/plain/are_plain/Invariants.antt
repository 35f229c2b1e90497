use Rattle.std.proofs.Common.{◌≡◌, All, [], map, take}
use Rattle.hm_schema.specs.Values.{NodeValue, node_value}
use Rattle.hm_types_schemas.proofs.plain.are_plain.Given as goal

abbrev pub invariant-loop-node : goal.invariant-loop-node
invariant-loop-node l = All (λ (n : NodeValue). n.twins ≡ []) (map node_value (take l.node-index l.nodes))
