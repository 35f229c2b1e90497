use Rattle.std.proofs.Common.{option_copied}
use Rattle.hm_certify.specs.Standing.{archive_or_none}
use Rattle.hm_certify.proofs.CarriedNames.{judged}
use Rattle.hm_certify.proofs.carried.is_judged.Goals as goal

pub returns : goal.returns
returns c =
    judged (archive_or_none (option_copied c.args.archive)) c.args.mine.now c.args.other.now c.args.names.now c.args.name.now _ _ _ _ _
    c.has.ensures c.archive_child.ensures c.child.ensures c.child-2.ensures c.is_carried.ensures
