use Rattle.std.proofs.Common.{arith}
use Rattle.hm_certify.proofs.PathOrder.{other_ends, this_ends}
use Rattle.hm_certify.proofs.marks.names_before.Goals as goal

pub returns-then-at-other : goal.returns-then-at-other
returns-then-at-other c = other_ends c.args.one.now c.args.other.now c.loop-at.at c.loop-at.invariant.same (omega arith) (omega arith)

pub returns : goal.returns
returns c = this_ends c.args.one.now c.args.other.now c.loop-at.at c.loop-at.invariant.same (omega arith) (omega arith) c.loop-at.invariant.within
