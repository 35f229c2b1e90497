use Rattle.hm_focal_terms.proofs.argument.read_one.Goals as goal

pub returns-in_default : goal.returns-in_default
returns-in_default g c = λ x rest h. (rw c.in_default.is at c.in_ok-argument.ensures) x h.inner h.first
