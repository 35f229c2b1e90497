use Rattle.std.proofs.Common.{sym}
use Rattle.hm_focal.proofs.Fronts.{no_edge}
use Rattle.hm_focal.proofs.front.front_edge.Goals as goal

pub returns-in-None : goal.returns-in-None
returns-in-None c = let f = rw c.in-Some.is at c.in_ok-token.ensures in no_edge _ _ _ f.1 (sym c.in-None.ensures)
