use Rattle.hm_lines.proofs.Returns.{last_goes, last_stays}
use Rattle.hm_lines.proofs.unfolding.without_return.Goals as goal

pub returns-in-Some : goal.returns-in-Some
returns-in-Some c = last_goes c.in-Some.front.now c.args.bytes.now c.in-Some.last.now c.in-Some.ensures.cases.0 c.if-last-eq13.true

pub returns-in_default : goal.returns-in_default
returns-in_default c = last_stays c.in-Some.front.now c.args.bytes.now c.in-Some.last.now c.in-Some.ensures.cases.0 c.if-last-eq13.false
