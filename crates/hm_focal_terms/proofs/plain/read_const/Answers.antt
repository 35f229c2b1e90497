use Rattle.hm_focal_terms.specs.TermText.{const_form}
use Rattle.hm_focal_terms.proofs.PlainForms.{no_const}
use Rattle.hm_focal_terms.proofs.plain.read_const.Goals as goal

pub returns-in-Some : goal.returns-in-Some
returns-in-Some c = const_form (rw c.in-Some.is at c.in_ok-tree.ensures)

pub returns-in-None : goal.returns-in-None
returns-in-None c = no_const (rw c.in-None.is at c.in_ok-tree.ensures)
