use Rattle.std.proofs.Common.{rules, T, subst, sym}
use Rattle.std.proofs.lemmas.List.{nil_from_length}
use Rattle.hm_tree.specs.Nodes.{are_edges}
use Rattle.hm_tree.proofs.Parted.{part_edges, parted_inside, parted_outside, inside_is, outside_is}
use Rattle.hm_tree.proofs.tree.Tree.into_parts.Goals as goal

pub has_from-requires-clause-passed : goal.has_from-requires-clause-passed
has_from-requires-clause-passed c = c.loop-edge.invariant.passed c.in-Some.edge c.next.new.self.rest.items (search rules)

pub loop-edge-preserved-in_ok-push : goal.loop-edge-preserved-in_ok-push
loop-edge-preserved-in_ok-push c =
    parted_inside _ _ _ _ _ _ _ _ _ c.in-Some.edge c.loop-edge.invariant (search rules) (search rules) (search rules) _ (search rules)

pub loop-edge-preserved : goal.loop-edge-preserved
loop-edge-preserved c =
    parted_outside _ _ _ _ _ _ _ _ _ c.in-Some.edge c.loop-edge.invariant (search rules) (search rules) (search rules) _ (search rules)

pub of_edges-requires : goal.of_edges-requires
of_edges-requires c = subst (λ es. T (are_edges es)) (sym (inside_is _ _ _ _ _ _ _ c.loop-edge.invariant (nil_from_length c.loop-edge.edge-iterator.rest.items (search rules)))) (part_edges _ _)

pub of_edges-requires-2 : goal.of_edges-requires-2
of_edges-requires-2 c = subst (λ es. T (are_edges es)) (sym (outside_is _ _ _ _ _ _ _ c.loop-edge.invariant (nil_from_length c.loop-edge.edge-iterator.rest.items (search rules)))) (part_edges _ _)
