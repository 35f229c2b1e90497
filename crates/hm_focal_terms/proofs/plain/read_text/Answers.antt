use Rattle.hm_focal_terms.specs.TermText.{text_form}
use Rattle.hm_focal_terms.proofs.PlainForms.{no_text}
use Rattle.hm_focal_terms.proofs.plain.read_text.Goals as goal

pub returns-in-Some : goal.returns-in-Some
returns-in-Some c = text_form (rw c.in-Some.is at c.in_ok-word.ensures)

pub returns-in-None : goal.returns-in-None
returns-in-None c = no_text (rw c.in-None.is at c.in_ok-word.ensures)
