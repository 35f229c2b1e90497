use Rattle.hm_focal_terms.specs.TermText.{filter_form}
use Rattle.hm_focal_terms.proofs.PlainForms.{no_filter}
use Rattle.hm_focal_terms.proofs.plain.read_filter.Goals as goal

pub returns-in_ok-filter-in-Some : goal.returns-in_ok-filter-in-Some
returns-in_ok-filter-in-Some c = rw c.in_ok-filter-in-Some.ensures (filter_form (rw c.in-Some.is at c.in_ok-names.ensures))

pub returns-in-None : goal.returns-in-None
returns-in-None c = no_filter (rw c.in-None.is at c.in_ok-names.ensures)
