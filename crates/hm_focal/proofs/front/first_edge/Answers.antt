use Rattle.hm_focal.proofs.Fronts.{quoted_found}
use Rattle.hm_focal.proofs.front.first_edge.Goals as goal

pub returns-in-None : goal.returns-in-None
returns-in-None c = quoted_found _ (rw c.in-None.is at c.in_ok-found.ensures) _ c.first_quoted.ensures
