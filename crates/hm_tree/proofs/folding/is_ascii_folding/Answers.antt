use Rattle.std.proofs.Common.{ap, not, ◌&&◌}
use Rattle.hm_tree.proofs.Folded.{lower_start, lower_more, lower_all}
use Rattle.hm_tree.proofs.folding.is_ascii_folding.Goals as goal

pub loop-byte-init : goal.loop-byte-init
loop-byte-init c = lower_start _

pub loop-byte-preserved : goal.loop-byte-preserved
loop-byte-preserved c =
    lower_more c.args.bytes.now c.loop-byte.byte-index c.loop-byte.is_lower _ c.loop-byte-test.true c.if-byte-gt127.false
    (ap (λ b. c.loop-byte.is_lower && not b) c.is_ascii_uppercase.ensures.value) c.loop-byte.invariant

pub returns : goal.returns
returns c = lower_all c.args.bytes.now c.loop-byte.byte-index c.loop-byte.is_lower c.loop-byte-test.false c.loop-byte.invariant
