use Rattle.std.proofs.Common.{ap, option_copied, inl, inr}
use Rattle.hm_certify.specs.Standing.{trio_of}
use Rattle.hm_certify.proofs.SafeTests.{has_some, both_stand, alone_stands}
use Rattle.hm_certify.proofs.safe.may_stand.Goals as goal

pub returns-in-Some-Some : goal.returns-in-Some-Some
returns-in-Some-Some c = both_stand (trio_of c.args.before) _ _ (ap option_copied c.in-Some-Some.is-0) (ap option_copied c.in-Some-Some.is-1)

pub returns-in-Some-None : goal.returns-in-Some-None
returns-in-Some-None c = alone_stands (trio_of c.args.before) _ c.is_missing.ensures (inr (ap option_copied c.in-Some-None.is-1))
    (inl (has_some (ap option_copied c.in-Some-None.is-0)))

pub returns-in-None-Some : goal.returns-in-None-Some
returns-in-None-Some c = alone_stands (trio_of c.args.before) _ c.is_missing-in-None-Some.ensures (inl (ap option_copied c.in-None-Some.is-0))
    (inr (has_some (ap option_copied c.in-None-Some.is-1)))
