use Rattle.std.proofs.Common.{All, take}
use Rattle.hm_schema.specs.declared.node.Node.{Node}
use Rattle.hm_schema.specs.Values.{node_value}
use Rattle.hm_schema_text.specs.Writing.{IsHeld}
use Rattle.hm_schema_text.proofs.held.nodes_are_held.Given as goal

abbrev pub invariant-loop-node : goal.invariant-loop-node
invariant-loop-node l = All (λ (n : Node). IsHeld (node_value n)) (take l.node-index l.nodes)
