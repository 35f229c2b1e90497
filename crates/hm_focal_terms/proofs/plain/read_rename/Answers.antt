use Rattle.hm_focal_terms.specs.TermText.{rename_form}
use Rattle.hm_focal_terms.proofs.PlainForms.{no_rename}
use Rattle.hm_focal_terms.proofs.plain.read_rename.Goals as goal

pub returns-in_ok-rename-in-Some : goal.returns-in_ok-rename-in-Some
returns-in_ok-rename-in-Some c = rw c.in_ok-rename-in-Some.ensures (rename_form (rw c.in-Some.is at c.in_ok-name.ensures))

pub returns-in-None : goal.returns-in-None
returns-in-None c = no_rename (rw c.in-None.is at c.in_ok-name.ensures)
