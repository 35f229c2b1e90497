use Rattle.hm_focal_terms.proofs.PlainForms.{one_edge_made}
use Rattle.hm_focal_terms.proofs.derived.under_name.Goals as goal

pub of_edges-requires : goal.of_edges-requires
of_edges-requires c = one_edge_made c.in_ok-copy.field-0 c.args.tree _ c.in_ok-copy.ensures.utf8 (rw c.new-edges.ensures.items at c.in_ok-push.ensures.items)
