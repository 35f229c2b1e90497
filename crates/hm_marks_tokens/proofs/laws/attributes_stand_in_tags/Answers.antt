use Rattle.hm_marks_tokens.proofs.Attributed.{attributes_stand}
use Rattle.hm_marks_tokens.proofs.laws.attributes_stand_in_tags.Goals as goal

pub returns : goal.returns
returns c = attributes_stand
