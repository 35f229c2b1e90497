use Rattle.hm_focal_terms.specs.TermText.{call_form}
use Rattle.hm_focal_terms.proofs.PlainForms.{no_call}
use Rattle.hm_focal_terms.proofs.plain.read_call.Goals as goal

pub returns-in-Some : goal.returns-in-Some
returns-in-Some c = call_form (rw c.in-Some.is at c.in_ok-word.ensures)

pub returns-in-None : goal.returns-in-None
returns-in-None c = no_call (rw c.in-None.is at c.in_ok-word.ensures)
