use Rattle.hm_focal_terms.proofs.Fronts.{other_edge}
use Rattle.hm_focal_terms.proofs.front.read_edge.Goals as goal

pub returns-in-None : goal.returns-in-None
returns-in-None c =
    let f = rw c.in-Some.is at c.in_ok-token.ensures in
    other_edge _ _ c.unspaced-front.ensures c.in-Some.token c.in-Some.length f.0 f.2 f.3 c.in-None.ensures
