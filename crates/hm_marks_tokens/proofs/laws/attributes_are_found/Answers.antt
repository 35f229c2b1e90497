use Rattle.hm_marks_tokens.proofs.AllAttributes.{are_found}
use Rattle.hm_marks_tokens.proofs.laws.attributes_are_found.Goals as goal

pub returns : goal.returns
returns c = are_found
