use Rattle.std.proofs.Common.{ap, option_copied}
use Rattle.hm_certify.specs.Standing.{trio_of}
use Rattle.hm_certify.proofs.SafeTests.{both_stop}
use Rattle.hm_certify.proofs.safe.is_stop.Goals as goal

pub returns-in-Some-Some : goal.returns-in-Some-Some
returns-in-Some-Some c =
    both_stop (trio_of c.args.before) (option_copied c.args.left) (option_copied c.args.right)
    (c.are_same.ensures.0 c.if-not-are_same.false) (c.are_same-else-not-are_same.ensures.0 c.if-not-are_same-2.false) _ _
    (ap option_copied c.in-Some-Some.is-0) (ap option_copied c.in-Some-Some.is-1)
