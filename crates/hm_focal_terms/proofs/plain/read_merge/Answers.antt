use Rattle.hm_focal_terms.specs.TermText.{merge_form}
use Rattle.hm_focal_terms.proofs.PlainForms.{no_merge}
use Rattle.hm_focal_terms.proofs.plain.read_merge.Goals as goal

pub returns-in-Some : goal.returns-in-Some
returns-in-Some c = merge_form (rw c.in-Some.is at c.in_ok-name.ensures)

pub returns-in-None : goal.returns-in-None
returns-in-None c = no_merge (rw c.in-None.is at c.in_ok-name.ensures)
