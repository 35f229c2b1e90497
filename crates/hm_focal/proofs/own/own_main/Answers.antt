use Rattle.std.proofs.Common.{refl}
use Rattle.hm_focal.proofs.Owns.{no_main}
use Rattle.hm_focal.proofs.own.own_main.Goals as goal

pub returns-in-None : goal.returns-in-None
returns-in-None c = no_main _ 109 c.requires refl (rw c.in-None.is at c.in_ok-body.ensures)
