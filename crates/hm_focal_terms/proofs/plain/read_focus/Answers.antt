use Rattle.hm_focal_terms.specs.TermText.{focus_form}
use Rattle.hm_focal_terms.proofs.PlainForms.{no_focus}
use Rattle.hm_focal_terms.proofs.plain.read_focus.Goals as goal

pub returns-in_ok-focus-in-Some : goal.returns-in_ok-focus-in-Some
returns-in_ok-focus-in-Some c = rw c.in_ok-focus-in-Some.ensures (focus_form (rw c.in-Some.is at c.in_ok-name.ensures))

pub returns-in-None : goal.returns-in-None
returns-in-None c = no_focus (rw c.in-None.is at c.in_ok-name.ensures)
