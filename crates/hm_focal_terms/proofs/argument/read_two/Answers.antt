use Rattle.hm_focal_terms.proofs.Arguments.{no_second}
use Rattle.hm_focal_terms.proofs.argument.read_two.Goals as goal

pub returns-in_default : goal.returns-in_default
returns-in_default g c = λ x y rest h. (rw c.in_default.is at c.in_ok-first.ensures) x h.middle h.first

pub returns-in_default-2 : goal.returns-in_default-2
returns-in_default-2 g c =
    no_second g.A.Argument.stands g.met.A.Argument.once _ c.in-Some.first c.in-Some.middle.now (rw c.in-Some.is at c.in_ok-first.ensures)
    g.B.Argument.stands (rw c.in_default-2.is at c.in_ok-second.ensures)
