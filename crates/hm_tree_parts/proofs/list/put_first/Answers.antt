use Rattle.hm_tree_parts.proofs.Edges.{two_fit, two_edges}
use Rattle.hm_tree_parts.proofs.list.put_first.Goals as goal

pub of_edges-requires : goal.of_edges-requires
of_edges-requires c =
    two_fit _ _ _ _ _ _ _ c.in_ok-from_text.ensures.value c.in_ok-from_text-2.ensures.value c.in_ok-from_text.ensures.utf8 c.in_ok-from_text-2.ensures.utf8
    c.in_ok-edges.ensures.items c.in_ok-push.ensures.items c.in_ok-push-2.ensures.items

pub returns : goal.returns
returns c =
    two_edges _ _ _ _ _ _ _ c.in_ok-from_text.ensures.value c.in_ok-from_text-2.ensures.value c.in_ok-from_text.ensures.utf8 c.in_ok-from_text-2.ensures.utf8
    c.in_ok-edges.ensures.items c.in_ok-push.ensures.items c.in_ok-push-2.ensures.items _ c.in_ok-of_edges.ensures
