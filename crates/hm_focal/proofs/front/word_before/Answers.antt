use Rattle.hm_focal.proofs.Fronts.{no_word_before}
use Rattle.hm_focal.proofs.front.word_before.Goals as goal

pub returns-in-None : goal.returns-in-None
returns-in-None c = let f = rw c.in-Some.is at c.in_ok-word.ensures in no_word_before _ _ _ f c.in-None.ensures
