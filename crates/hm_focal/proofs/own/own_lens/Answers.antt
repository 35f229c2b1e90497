use Rattle.std.proofs.Common.{refl}
use Rattle.hm_focal.proofs.Owns.{no_lens}
use Rattle.hm_focal.proofs.own.own_lens.Goals as goal

pub returns-in-None : goal.returns-in-None
returns-in-None c = no_lens _ 108 c.requires refl (rw c.in-None.is at c.in_ok-lens.ensures)
