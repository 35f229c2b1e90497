use Rattle.hm_eval_terms.specs.Texts.{no_name, its_name}
use Rattle.hm_eval_terms.proofs.texts.name_before.Goals as goal

pub returns-in-Some : goal.returns-in-Some
returns-in-Some c = rw c.in-Some.is (its_name c.value_of.ensures)

pub returns-in-None : goal.returns-in-None
returns-in-None c = rw c.in-None.is no_name
