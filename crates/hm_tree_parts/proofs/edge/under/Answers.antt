use Rattle.hm_tree_parts.proofs.Edges.{one_fits, one_edge}
use Rattle.hm_tree_parts.proofs.edge.under.Goals as goal

pub of_edges-requires : goal.of_edges-requires
of_edges-requires c = one_fits _ _ _ _ c.text-text.ensures.utf8 c.in_ok-edges.ensures.items c.in_ok-push.ensures.items

pub returns : goal.returns
returns c = one_edge _ _ _ _ c.text-text.ensures.utf8 c.in_ok-edges.ensures.items c.in_ok-push.ensures.items _ c.in_ok-of_edges.ensures
