use Rattle.hm_focal.proofs.Formats.{no_name, no_good_options}
use Rattle.hm_focal.proofs.format.read_format.Goals as goal

pub returns-in_default : goal.returns-in_default
returns-in_default c = λ w ps h. (rw c.in_default.is at c.in_ok-text.ensures) h.text h.front

pub returns-in_default-2 : goal.returns-in_default-2
returns-in_default-2 c = no_name _ _ (rw c.in-Some.is at c.in_ok-text.ensures) (rw c.in_default-2.is at c.in_ok-word.ensures)

pub returns-in-None : goal.returns-in-None
returns-in-None c =
    no_good_options _ _ (rw c.in-Some.is at c.in_ok-text.ensures) _ _ (rw c.in-Some-2.is at c.in_ok-word.ensures)
    (rw c.in-None.is at c.in_ok-pairs.ensures)
