use Rattle.std.proofs.Common.{◌≡◌, Some, arith}
use Rattle.std.specs.declared.cmp.Ordering.TheVariants.{Less}
use Rattle.hm_tree.specs.Names.{Name, name_cmp}
use Rattle.hm_tree.specs.Nodes.{Tree, edges}
use Rattle.hm_tree.specs.Archives.{Archive, under}
use Rattle.hm_tree.specs.States.{IsWithin}
use Rattle.hm_tree.proofs.Sorted.{below_edge}
use Rattle.hm_certify.proofs.Verdicts.{is_so, is_not, says_no}
use Rattle.hm_certify.proofs.EachEdge.{one_more, each_below}
use Rattle.hm_certify.proofs.news.is_within_before.Goals as goal

abbrev IsWithinIfBefore : Archive → Name → Name → Tree → Type 0
IsWithinIfBefore o k j c = name_cmp j k ≡ Less → IsWithin (Some c) (under j o)

pub returns-then-not-is_within_if_before : goal.returns-then-not-is_within_if_before
returns-then-not-is_within_if_before c = is_not (λ all.
    says_no c.is_within_if_before.ensures c.if-not-is_within_if_before.true
    (all _ _ (below_edge c.args.tree.now c.loop-place.place _ _ c.edge.ensures)))

pub loop-place-preserved : goal.loop-place-preserved
loop-place-preserved c =
    one_more (IsWithinIfBefore c.args.archive.now c.args.name.now) (edges c.args.tree.now) c.loop-place.place _ _
    c.loop-place.invariant c.edge.ensures (c.is_within_if_before.ensures.0 c.if-not-is_within_if_before.false)

pub returns : goal.returns
returns c = is_so (each_below (IsWithinIfBefore c.args.archive.now c.args.name.now) c.args.tree.now c.loop-place.place
    (omega (arith, c.count-place-end.ensures)) c.loop-place.invariant)
