use Rattle.std.proofs.Common.{rules, All, IsUtf8, subst}
use Rattle.std.proofs.lemmas.List.Elements.{All-map}
use Rattle.hm_tree.specs.Names.{Name}
use Rattle.hm_schema.specs.declared.node.NodeId.{NodeId}
use Rattle.hm_schema.specs.declared.node.Node.{Node}
use Rattle.hm_schema.specs.Values.{node_value}
use Rattle.hm_schema.proofs.Lists.{all_next, all_done}
use Rattle.hm_schema_writer.specs.WrittenNodes.{IsWritableShape}
use Rattle.hm_schema_text.specs.Writing.{IsHeld}
use Rattle.hm_schema_text.proofs.held.nodes_are_held.Goals as goal

pub loop-node-preserved : goal.loop-node-preserved
loop-node-preserved c = all_next (λ (n : Node). IsHeld (node_value n)) c.args.nodes.now _ _ (search rules) c.node-item.is c.loop-node.invariant
    (record {
      texts = subst (All (λ (child : Name × NodeId). IsUtf8 child.0)) c.deref.ensures.value c.names_are_texts.ensures;
      counts = subst (All IsWritableShape) c.deref-in-loop-node.ensures.value c.counts_are_numbers.ensures;
    })

pub returns : goal.returns
returns c = All-map IsHeld node_value c.args.nodes.now
    (all_done (λ (n : Node). IsHeld (node_value n)) c.args.nodes.now _ (search rules) c.loop-node.invariant)
