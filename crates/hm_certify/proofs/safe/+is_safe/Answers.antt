use Rattle.std.proofs.Common.{Some, sym, ap, ◌∙◌, option_copied, arith}
use Rattle.hm_tree.specs.Archives.{edges_here}
use Rattle.hm_safety.specs.Safety.{IsSafe}
use Rattle.hm_outcome.specs.Trios.{views}
use Rattle.hm_certify.specs.Standing.{trio_of}
use Rattle.hm_certify.specs.Steps.{step}
use Rattle.hm_certify.proofs.Verdicts.{says_no}
use Rattle.hm_certify.proofs.EachEdge.{one_more, edge_under}
use Rattle.hm_certify.proofs.SafeTests.{missing_root, marked_root, does_not_go, unsafe_below, all_safe, below_is, given_sides}
use Rattle.hm_certify.proofs.safe.+is_safe.Goals as goal

pub returns-in-Missing : goal.returns-in-Missing
returns-in-Missing t c = missing_root (trio_of c.args.before) c.args.archive.now (option_copied c.args.left) (option_copied c.args.right) _
    (sym c.root.ensures ∙ c.in-Missing.is) c.is_gone.ensures

pub returns-in-Marked : goal.returns-in-Marked
returns-in-Marked t c = marked_root (trio_of c.args.before) c.args.archive.now (option_copied c.args.left) (option_copied c.args.right) _
    (sym c.root.ensures ∙ c.in-Marked.is) c.is_stop.ensures

pub returns-then-not-others_go : goal.returns-then-not-others_go
returns-then-not-others_go t c =
    given_sides (trio_of c.args.before) c.args.archive.now c.in-Some-Some.left.now c.in-Some-Some.right.now (option_copied c.args.left)
    (option_copied c.args.right) _
    (ap option_copied c.in-Some-Some.is-0) (ap option_copied c.in-Some-Some.is-1)
    (does_not_go (trio_of c.args.before) c.args.archive.now c.in-Some-Some.left.now c.in-Some-Some.right.now
    (sym c.root.ensures ∙ c.in-Present.is) (says_no c.others_go.ensures c.if-not-others_go.true))

pub returns-then-not-is_safe : goal.returns-then-not-is_safe
returns-then-not-is_safe t c =
    given_sides (trio_of c.args.before) c.args.archive.now c.in-Some-Some.left.now c.in-Some-Some.right.now (option_copied c.args.left)
    (option_copied c.args.right) _
    (ap option_copied c.in-Some-Some.is-0) (ap option_copied c.in-Some-Some.is-1)
    (unsafe_below (trio_of c.args.before) c.args.archive.now c.in-Some-Some.left.now c.in-Some-Some.right.now
    (sym c.root.ensures ∙ c.in-Present.is) c.edge.result.0.now
    (says_no (below_is (trio_of c.args.before) c.args.archive.now c.in-Some-Some.left.now c.in-Some-Some.right.now
    (sym c.root.ensures ∙ c.in-Present.is) c.edge.result.0.now _ _ _ _ _
    (edge_under c.args.archive.now c.loop-place.place _ _ c.edge.ensures).0 c.child.ensures c.child-in-loop-place.ensures
    c.child-in-loop-place-2.ensures c.is_safe.ensures) c.if-not-is_safe.true))

pub loop-place-preserved : goal.loop-place-preserved
loop-place-preserved t c =
    one_more (λ k _. IsSafe (views (step k (trio_of c.args.before)))
    (views (step k (record { archive = c.args.archive.now; left = Some c.in-Some-Some.left.now; right = Some c.in-Some-Some.right.now }))))
    (edges_here c.args.archive.now) c.loop-place.place _ _ c.loop-place.invariant c.edge.ensures
    ((below_is (trio_of c.args.before) c.args.archive.now c.in-Some-Some.left.now c.in-Some-Some.right.now
    (sym c.root.ensures ∙ c.in-Present.is) c.edge.result.0.now _ _ _ _ _
    (edge_under c.args.archive.now c.loop-place.place _ _ c.edge.ensures).0 c.child.ensures c.child-in-loop-place.ensures
    c.child-in-loop-place-2.ensures c.is_safe.ensures).0 c.if-not-is_safe.false)

pub returns : goal.returns
returns t c =
    given_sides (trio_of c.args.before) c.args.archive.now c.in-Some-Some.left.now c.in-Some-Some.right.now (option_copied c.args.left)
    (option_copied c.args.right) _
    (ap option_copied c.in-Some-Some.is-0) (ap option_copied c.in-Some-Some.is-1)
    (all_safe (trio_of c.args.before) c.args.archive.now c.in-Some-Some.left.now c.in-Some-Some.right.now (sym c.root.ensures ∙ c.in-Present.is)
    (c.may_stand.ensures.0 c.if-not-may_stand.false) (c.others_go.ensures.0 c.if-not-others_go.false) c.loop-place.place
    (omega (arith, c.count-place-end.ensures)) c.loop-place.invariant)
