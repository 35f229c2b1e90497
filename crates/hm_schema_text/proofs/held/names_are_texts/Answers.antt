use Rattle.std.proofs.Common.{rules, IsUtf8}
use Rattle.hm_tree.specs.Names.{Name}
use Rattle.hm_schema.specs.declared.node.NodeId.{NodeId}
use Rattle.hm_schema.proofs.Lists.{all_next, all_done}
use Rattle.hm_schema_text.proofs.held.names_are_texts.Goals as goal

pub loop-child-preserved : goal.loop-child-preserved
loop-child-preserved c = all_next (λ (child : Name × NodeId). IsUtf8 child.0) c.args.children.now _ _ (search rules) c.child-item.is c.loop-child.invariant
    c.text.ensures.utf8

pub returns : goal.returns
returns c = all_done (λ (child : Name × NodeId). IsUtf8 child.0) c.args.children.now _ (search rules) c.loop-child.invariant
