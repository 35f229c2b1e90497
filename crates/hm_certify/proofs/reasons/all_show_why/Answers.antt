use Rattle.std.proofs.Common.{arith}
use Rattle.hm_outcome.specs.Trios.{given, views}
use Rattle.hm_report.specs.Reasons.{ShowsWhy}
use Rattle.hm_certify.proofs.Verdicts.{is_so}
use Rattle.hm_certify.proofs.ConflictPaths.{one_more_holds, all_hold}
use Rattle.hm_certify.proofs.reasons.all_show_why.Goals as goal

pub loop-conflict-preserved : goal.loop-conflict-preserved
loop-conflict-preserved c =
    one_more_holds (λ x. ShowsWhy c.args.schema.now c.args.schema.now.root (views (given c.args.archive.now c.args.left.now c.args.right.now))
    x.path x.why)
    c.args.conflicts.now c.loop-conflict.conflict-index c.conflict-item.result (omega arith) c.conflict-item.is c.loop-conflict.invariant
    (c.shows_why.ensures.0 c.if-not-shows_why.false)

pub returns : goal.returns
returns c = is_so (
    all_hold (λ x. ShowsWhy c.args.schema.now c.args.schema.now.root (views (given c.args.archive.now c.args.left.now c.args.right.now)) x.path x.why)
    c.args.conflicts.now c.loop-conflict.conflict-index (omega arith) c.loop-conflict.invariant)
