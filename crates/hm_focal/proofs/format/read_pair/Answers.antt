use Rattle.hm_focal.proofs.Formats.{no_sign, no_values}
use Rattle.hm_focal.proofs.format.read_pair.Goals as goal

pub returns-in_default-behind_sign : goal.returns-in_default-behind_sign
returns-in_default-behind_sign c = no_sign _ _ _ (rw c.in-Some.is at c.in_ok-key.ensures) c.in_default-behind_sign.ensures

pub returns-in-None : goal.returns-in-None
returns-in-None c =
    no_values _ _ _ _ (rw c.in-Some.is at c.in_ok-key.ensures) c.in-Some-behind_sign.ensures (rw c.in-None.is at c.in_ok-values.ensures)
