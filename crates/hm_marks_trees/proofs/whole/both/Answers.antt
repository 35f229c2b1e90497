use Rattle.std.proofs.lemmas.Result.{IfOk-weaker}
use Rattle.hm_marks_trees.proofs.NodeMeasures.{edges_fit, both_edges}
use Rattle.hm_marks_trees.proofs.whole.both.Goals as goal

pub of_edges-requires : goal.of_edges-requires
of_edges-requires c =
    edges_fit _ _ _ _ _ _ _ c.in_ok-from_text.ensures.value c.in_ok-from_text-2.ensures.value c.in_ok-edges.ensures.items c.in_ok-push.ensures.items
    c.in_ok-push-2.ensures.items

pub returns : goal.returns
returns c =
    IfOk-weaker c.of_edges.result _ _
    (both_edges _ _ _ _ _ _ _ c.in_ok-from_text.ensures.value c.in_ok-from_text-2.ensures.value c.in_ok-edges.ensures.items c.in_ok-push.ensures.items
    c.in_ok-push-2.ensures.items) c.of_edges.ensures
