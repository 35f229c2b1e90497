use Rattle.hm_certify.proofs.Verdicts.{both_hold}
use Rattle.hm_certify.proofs.safe.both_go.Goals as goal

pub returns-then-each_goes : goal.returns-then-each_goes
returns-then-each_goes c = both_hold c.each_goes.ensures c.if-each_goes.true c.each_goes-then-each_goes.ensures
