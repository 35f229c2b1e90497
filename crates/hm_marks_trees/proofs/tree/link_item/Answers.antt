use Rattle.std.proofs.Common.{subst}
use Rattle.hm_tree_parts.specs.Edges.{IsEdge}
use Rattle.hm_marks_trees.proofs.tree.link_item.Goals as goal

pub returns-clause-tree : goal.returns-clause-tree
returns-clause-tree c = record {
  value = c.in_ok-value.value;
  below = subst (λ n. IsEdge n c.in_ok-value.value c.in_ok-tree.tree) c.in_ok-url.ensures c.in_ok-tree.ensures;
  text = c.in_ok-value.ensures;
}
