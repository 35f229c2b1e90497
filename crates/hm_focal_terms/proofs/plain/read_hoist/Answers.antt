use Rattle.hm_focal_terms.specs.TermText.{hoist_form}
use Rattle.hm_focal_terms.proofs.PlainForms.{no_hoist}
use Rattle.hm_focal_terms.proofs.plain.read_hoist.Goals as goal

pub returns-in-Some : goal.returns-in-Some
returns-in-Some c = hoist_form (rw c.in-Some.is at c.in_ok-name.ensures)

pub returns-in-None : goal.returns-in-None
returns-in-None c = no_hoist (rw c.in-None.is at c.in_ok-name.ensures)
