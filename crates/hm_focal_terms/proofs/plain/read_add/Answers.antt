use Rattle.hm_focal_terms.specs.TermText.{add_form}
use Rattle.hm_focal_terms.proofs.PlainForms.{no_add}
use Rattle.hm_focal_terms.proofs.plain.read_add.Goals as goal

pub returns-in_ok-add-in-Some : goal.returns-in_ok-add-in-Some
returns-in_ok-add-in-Some c = rw c.in_ok-add-in-Some.ensures (add_form (rw c.in-Some.is at c.in_ok-name.ensures))

pub returns-in-None : goal.returns-in-None
returns-in-None c = no_add (rw c.in-None.is at c.in_ok-name.ensures)
