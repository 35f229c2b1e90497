use Rattle.std.proofs.Common.{ap, option_copied}
use Rattle.hm_certify.specs.Standing.{archive_or_none}
use Rattle.hm_certify.proofs.Verdicts.{says_no}
use Rattle.hm_certify.proofs.SafeTests.{lost_alone}
use Rattle.hm_certify.proofs.safe.is_lost.Goals as goal

pub returns-then-not-is_missing : goal.returns-then-not-is_missing
returns-then-not-is_missing c =
    lost_alone (archive_or_none (option_copied c.args.archive)) (option_copied c.args.keeper) (option_copied c.args.other) _ _
    (ap option_copied c.in-Some-None.is-0) (ap option_copied c.in-Some-None.is-1) (says_no c.is_missing.ensures c.if-not-is_missing.true)
    c.is_within.ensures
