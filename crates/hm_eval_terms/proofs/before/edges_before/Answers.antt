use Rattle.std.proofs.Common.{T, subst, sym, ◌∙◌}
use Rattle.std.specs.FinMap.{is_sorted}
use Rattle.hm_tree.specs.Names.{name_cmp}
use Rattle.hm_tree.specs.NodeLaws.{edges_sorted}
use Rattle.hm_eval_terms.proofs.before.edges_before.Goals as goal

pub returns-in-Some-clause-sorted : goal.returns-in-Some-clause-sorted
returns-in-Some-clause-sorted c = subst (λ l. T (is_sorted name_cmp l)) (sym (c.from_vec.ensures.items ∙ c.into_edges.ensures)) (edges_sorted c.in-Some.tree)
