use Rattle.hm_focal_terms.proofs.Fronts.{no_word, other_word}
use Rattle.hm_focal_terms.proofs.front.read_word.Goals as goal

pub returns-in_default : goal.returns-in_default
returns-in_default c = no_word _ _ c.unspaced-front.ensures (rw c.in_default.is at c.in_ok-token.ensures)

pub returns-in-None : goal.returns-in-None
returns-in-None c =
    let f = rw c.in-Some.is at c.in_ok-token.ensures in
    other_word _ _ c.unspaced-front.ensures c.in-Some.token c.in-Some.length f.0 f.2 f.3 c.in-None.ensures
