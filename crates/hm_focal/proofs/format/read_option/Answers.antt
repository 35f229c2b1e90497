use Rattle.hm_focal.proofs.Formats.{option_told}
use Rattle.hm_focal.proofs.format.read_option.Goals as goal

pub returns-in-Some : goal.returns-in-Some
returns-in-Some c = option_told _ _ c.in-Some.ensures _ c.read_pair.ensures

pub returns-in-None : goal.returns-in-None
returns-in-None c = λ p rest o. c.in-None.ensures o.0 o.1
