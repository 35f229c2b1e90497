use Rattle.std.proofs.Common.{T, subst, sym}
use Rattle.hm_tree.specs.Nodes.{are_edges}
use Rattle.hm_tree.specs.NodeLaws.{edges_are}
use Rattle.hm_tree.proofs.Merged.{joined_result}
use Rattle.hm_tree.proofs.tree.Tree.join.Goals as goal

pub merge-requires-clause-one : goal.merge-requires-clause-one
merge-requires-clause-one c = subst (λ es. T (are_edges es)) (sym c.into_edges.ensures) (edges_are c.args.one)

pub merge-requires-clause-two : goal.merge-requires-clause-two
merge-requires-clause-two c = subst (λ es. T (are_edges es)) (sym c.into_edges-2.ensures) (edges_are c.args.two)

pub returns : goal.returns
returns c = joined_result _ _ _ _ _ c.of_edges.result c.requires c.into_edges.ensures c.into_edges-2.ensures c.in_ok-merge.ensures c.of_edges.ensures
