use Rattle.std.proofs.Common.{◌∙◌, ap}
use Rattle.hm_tree.specs.Names.{Name}
use Rattle.hm_tree.specs.Nodes.{with_edge}
use Rattle.hm_tree_parts.proofs.twin.with_copy.Goals as goal

pub returns : goal.returns
returns c = record {
  child = c.in_ok-child.child;
  there = c.in_ok-child.ensures;
  is = c.in_ok-insert.ensures.ok ∙ ap (λ (k : Name). with_edge k c.in_ok-child.child c.args.tree) c.in_ok-copy.ensures.value;
}
