use Rattle.std.proofs.Common.{All, take, IsUtf8}
use Rattle.hm_tree.specs.Names.{Name}
use Rattle.hm_schema.specs.declared.node.NodeId.{NodeId}
use Rattle.hm_schema_text.proofs.held.names_are_texts.Given as goal

abbrev pub invariant-loop-child : goal.invariant-loop-child
invariant-loop-child l = All (λ (child : Name × NodeId). IsUtf8 child.0) (take l.child-index l.children)
