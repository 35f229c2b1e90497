use Rattle.std.proofs.Common.{option_copied}
use Rattle.hm_certify.specs.Standing.{archive_or_none}
use Rattle.hm_certify.proofs.CarriedNames.{names_listed}
use Rattle.hm_certify.proofs.carried.are_carried.Goals as goal

pub returns : goal.returns
returns c =
    names_listed (archive_or_none (option_copied c.args.archive)) c.args.mine.now c.args.other.now c.args.names.now c.names.result.now _
    c.names.ensures.same
    (c.each_judged.ensures.0 c.if-not-each_judged.false) (c.each_judged-2.ensures.0 c.if-not-each_judged-2.false) c.all_judged.ensures
