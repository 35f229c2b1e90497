use Rattle.std.proofs.Common.{ap, option_copied, arith}
use Rattle.hm_tree.specs.Nodes.{edges}
use Rattle.hm_tree.proofs.Sorted.{below_edge}
use Rattle.hm_certify.specs.Standing.{trio_of}
use Rattle.hm_certify.specs.Safe.{GoesUnder}
use Rattle.hm_certify.proofs.Verdicts.{is_so, is_not, says_no}
use Rattle.hm_certify.proofs.EachEdge.{one_more}
use Rattle.hm_certify.proofs.SafeTests.{all_go, one_stays}
use Rattle.hm_certify.proofs.safe.each_goes.Goals as goal

pub returns-then-not-goes_under : goal.returns-then-not-goes_under
returns-then-not-goes_under c = is_not (
    one_stays (trio_of c.args.before) c.args.archive.now c.args.left.now c.args.right.now (option_copied c.args.side) c.in-Some.side.now _ _
    (ap option_copied c.in-Some.is) (below_edge c.in-Some.side.now c.loop-place.place _ _ c.edge.ensures)
    (says_no c.goes_under.ensures c.if-not-goes_under.true))

pub loop-place-preserved : goal.loop-place-preserved
loop-place-preserved c =
    one_more (λ k _. GoesUnder (trio_of c.args.before) c.args.archive.now c.args.left.now c.args.right.now k) (edges c.in-Some.side.now)
    c.loop-place.place _ _
    c.loop-place.invariant c.edge.ensures (c.goes_under.ensures.0 c.if-not-goes_under.false)

pub returns : goal.returns
returns c = is_so (
    all_go (trio_of c.args.before) c.args.archive.now c.args.left.now c.args.right.now (option_copied c.args.side) c.in-Some.side.now
    c.loop-place.place
    (ap option_copied c.in-Some.is) (omega (arith, c.count-place-end.ensures)) c.loop-place.invariant)
