use Rattle.std.proofs.Common.{◌≡◌, ◌≢◌, ◌<◌, length, sym, subst, ◌∙◌, arith}
use mathlib.Core.Bool.{true≢false}
use Rattle.hm_graph_classes.specs.Partitions.{IsRefined}
use Rattle.hm_graph_classes.proofs.Partitions.{partition_of, partition_refined, partition_ends, refined_rises, slack_falls}
use Rattle.hm_graph_classes.proofs.partition.classes.Goals as goal

pub loop-now-init : goal.loop-now-init
loop-now-init c =
    let g = c.args.graph.now in
    let begin = c.in_ok-begin.begin.items in
    let new = c.in_ok-now.now.items in
    let r : IsRefined g begin new = subst (λ l. IsRefined g l new) c.deref.ensures.value c.in_ok-now.ensures in
    partition_of g c.requires begin c.in_ok-begin.ensures new r

pub returns-then-equal : goal.returns-then-equal
returns-then-equal c =
    let g = c.args.graph.now in
    let old = c.loop-now.now.items in
    let new = c.in_ok-next.next.items in
    let r : IsRefined g old new = subst (λ l. IsRefined g l new) c.deref-in-loop-now.ensures.value c.in_ok-next.ensures in
    let same : new ≡ old = sym c.deref-in-loop-now-2.ensures.value ∙ c.equal.ensures.0 c.if-equal.true ∙ c.deref-in-loop-now-3.ensures.value in
    partition_ends g c.requires old new c.loop-now.invariant r same

pub loop-now-preserved : goal.loop-now-preserved
loop-now-preserved c =
    let g = c.args.graph.now in
    let old = c.loop-now.now.items in
    let new = c.in_ok-next.next.items in
    let r : IsRefined g old new = subst (λ l. IsRefined g l new) c.deref-in-loop-now.ensures.value c.in_ok-next.ensures in
    partition_refined g c.requires old new c.loop-now.invariant r

pub loop-now-smaller : goal.loop-now-smaller
loop-now-smaller c =
    let g = c.args.graph.now in
    let old = c.loop-now.now.items in
    let new = c.in_ok-next.next.items in
    let r : IsRefined g old new = subst (λ l. IsRefined g l new) c.deref-in-loop-now.ensures.value c.in_ok-next.ensures in
    let off : new ≢ old = λ e. true≢false (sym (c.equal.ensures.1 (c.deref-in-loop-now-2.ensures.value ∙ e ∙ sym c.deref-in-loop-now-3.ensures.value)) ∙ c.if-equal.false) in
    let size : length old ≡ length new = c.loop-now.invariant.size ∙ sym r.size in
    slack_falls (length g) old new size
    (λ i lt.
    let inside : i < length g = omega (arith, lt, c.loop-now.invariant.size) in
    let low = (r.first i inside).low in
    (refined_rises g c.requires old new c.loop-now.invariant r i inside, omega (arith, low, inside)))
    off
