use Rattle.hm_focal_terms.specs.Fronts.{IsWord}
use Rattle.hm_focal_terms.proofs.Arguments.{word_once, not_closed}
use Rattle.hm_focal_terms.proofs.argument.read_one_word.Goals as goal

pub returns-in-None : goal.returns-in-None
returns-in-None c =
    not_closed IsWord word_once _ c.in-Some-2.word c.in-Some-2.last.now
    (record { inner = c.in-Some.inner.now; begins = c.in-Some.ensures; form = rw c.in-Some-2.is at c.in_ok-word.ensures }) c.in-None.ensures
