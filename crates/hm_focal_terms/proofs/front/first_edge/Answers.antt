use Rattle.hm_focal_terms.proofs.Fronts.{quoted_edge}
use Rattle.hm_focal_terms.proofs.front.first_edge.Goals as goal

pub returns-in-None : goal.returns-in-None
returns-in-None c = quoted_edge c.args.text.now (rw c.in-None.is at c.in_ok-found.ensures) _ c.first_quoted.ensures
