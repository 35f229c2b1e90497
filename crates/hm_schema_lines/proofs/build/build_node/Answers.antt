use Rattle.std.proofs.Common.{rules}
use Rattle.std.specs.Ordering.{is_lt}
use Rattle.std.proofs.lemmas.List.Sorted.{ranks_by, answers_always}
use Rattle.hm_tree.specs.Names.{Name, name_cmp}
use Rattle.hm_tree.proofs.Sorted.{name_total}
use Rattle.hm_schema.specs.declared.node.NodeId.{NodeId}
use Rattle.hm_schema_lines.proofs.build.build_node.Goals as goal

pub returns : goal.returns
returns c = record {
  shapes = c.in_ok-shapes.ensures;
  children = rw c.in_ok-children.ensures at c.in_ok-sort_by.ensures.permutation;
  ascending = c.in_ok-sort_by.ensures.sorted (λ x y. is_lt (name_cmp x.0 y.0)) (ranks_by name_total (λ (e : Name × NodeId). e.0))
      (answers_always _ _ _ (λ f a r f' called. search rules));
  other = c.first_other.ensures;
  twins = c.new.ensures.items;
}
