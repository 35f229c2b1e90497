use Rattle.std.proofs.Common.{option_copied, subst, arith}
use Rattle.std.specs.List.{All}
use Rattle.std.proofs.lemmas.List.{take_all}
use Rattle.std.proofs.lemmas.List.Elements.{All-more}
use Rattle.hm_certify.specs.Standing.{archive_or_none}
use Rattle.hm_certify.specs.Carrying.{IsJudged}
use Rattle.hm_certify.proofs.Verdicts.{is_so}
use Rattle.hm_certify.proofs.carried.all_judged.Goals as goal

pub loop-name-preserved : goal.loop-name-preserved
loop-name-preserved c =
    All-more (IsJudged (archive_or_none (option_copied c.args.archive)) c.args.mine.now c.args.other.now c.args.names.now) c.args.list.now
    c.loop-name.name-index c.name-item.result (omega arith)
    c.loop-name.invariant (subst (IsJudged (archive_or_none (option_copied c.args.archive)) c.args.mine.now c.args.other.now c.args.names.now)
    c.name-item.is (c.is_judged.ensures.0 c.if-not-is_judged.false))

pub returns : goal.returns
returns c = is_so (
    subst (All (IsJudged (archive_or_none (option_copied c.args.archive)) c.args.mine.now c.args.other.now c.args.names.now))
    (take_all c.loop-name.name-index c.args.list.now (omega arith)) c.loop-name.invariant)
