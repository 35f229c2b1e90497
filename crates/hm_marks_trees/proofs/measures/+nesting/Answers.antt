use Rattle.std.proofs.Common.{take, ap, ◌∷◌, [], ◌++◌, sym, ◌∙◌}
use Rattle.std.proofs.lemmas.List.{take_more}
use Rattle.hm_marks_trees.proofs.NodeMeasures.{one_counted}
use Rattle.hm_marks_trees.proofs.measures.+nesting.Goals as goal

pub nested_in-loop-node-preserved : goal.nested_in-loop-node-preserved
nested_in-loop-node-preserved t c =
    let nodes = c.args.nodes.now in
    let next = take_more nodes c.loop-node.node-index c.node-item.result c.loop-node-test.true ∙ ap (λ n. take c.loop-node.node-index nodes ++ n ∷ []) (sym c.node-item.is) in
    one_counted (take c.loop-node.node-index nodes) _ c.node-item.result c.loop-node.most c.in_ok-nested_at.field-0 c.max-most.result c.loop-node.invariant next
    c.in_ok-nested_at.ensures.nesting c.in_ok-nested_at.ensures.texts c.max-most.ensures
