use Rattle.std.proofs.Common.{option_copied, arith}
use Rattle.hm_tree.specs.Nodes.{edges}
use Rattle.hm_tree.proofs.Sorted.{below_edge}
use Rattle.hm_certify.specs.Standing.{archive_or_none}
use Rattle.hm_certify.specs.Carrying.{IsJudged}
use Rattle.hm_certify.proofs.Verdicts.{is_so, is_not, says_no}
use Rattle.hm_certify.proofs.EachEdge.{one_more, each_below}
use Rattle.hm_certify.proofs.carried.each_judged.Goals as goal

pub returns-then-not-is_judged : goal.returns-then-not-is_judged
returns-then-not-is_judged c =
    is_not (λ all. says_no c.is_judged.ensures c.if-not-is_judged.true (all _ _ (below_edge c.args.side.now c.loop-place.place _ _ c.edge.ensures)))

pub loop-place-preserved : goal.loop-place-preserved
loop-place-preserved c =
    one_more (λ k _. IsJudged (archive_or_none (option_copied c.args.archive)) c.args.mine.now c.args.other.now c.args.names.now k)
    (edges c.args.side.now) c.loop-place.place _ _
    c.loop-place.invariant c.edge.ensures (c.is_judged.ensures.0 c.if-not-is_judged.false)

pub returns : goal.returns
returns c = is_so (
    each_below (λ k _. IsJudged (archive_or_none (option_copied c.args.archive)) c.args.mine.now c.args.other.now c.args.names.now k)
    c.args.side.now c.loop-place.place
    (omega (arith, c.count-place-end.ensures)) c.loop-place.invariant)
