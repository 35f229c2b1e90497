use Rattle.hm_focal_terms.specs.TermText.{copy_form}
use Rattle.hm_focal_terms.proofs.PlainForms.{no_copy}
use Rattle.hm_focal_terms.proofs.plain.read_copy.Goals as goal

pub returns-in-Some : goal.returns-in-Some
returns-in-Some c = copy_form (rw c.in-Some.is at c.in_ok-name.ensures)

pub returns-in-None : goal.returns-in-None
returns-in-None c = no_copy (rw c.in-None.is at c.in_ok-name.ensures)
