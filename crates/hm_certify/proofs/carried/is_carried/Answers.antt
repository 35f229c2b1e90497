use Rattle.std.proofs.Common.{ap, option_copied}
use Rattle.hm_certify.specs.Standing.{archive_or_none}
use Rattle.hm_certify.proofs.CarriedNames.{carried_both, carried_mine, carried_other}
use Rattle.hm_certify.proofs.carried.is_carried.Goals as goal

pub returns-in-Some-Some : goal.returns-in-Some-Some
returns-in-Some-Some c =
    carried_both (archive_or_none (option_copied c.args.archive)) (option_copied c.args.mine) (option_copied c.args.other) _ _
    (ap option_copied c.in-Some-Some.is-0) (ap option_copied c.in-Some-Some.is-1)

pub returns-in-Some-None : goal.returns-in-Some-None
returns-in-Some-None c =
    carried_mine (archive_or_none (option_copied c.args.archive)) (option_copied c.args.mine) (option_copied c.args.other) _
    (ap option_copied c.in-Some-None.is-0) (ap option_copied c.in-Some-None.is-1) _ c.is_within.ensures

pub returns-in-None-Some : goal.returns-in-None-Some
returns-in-None-Some c =
    carried_other (archive_or_none (option_copied c.args.archive)) (option_copied c.args.mine) (option_copied c.args.other) _
    (ap option_copied c.in-None-Some.is-0) (ap option_copied c.in-None-Some.is-1) _ c.is_missing.ensures
