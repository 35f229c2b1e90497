use Rattle.std.proofs.Common.{subst}
use Rattle.hm_graph_classes.specs.Calm.{AreCalm}
use Rattle.hm_graph_classes.specs.Apart.{IsRenumbered}
use Rattle.hm_graph_classes.specs.Partitions.{IsRefined}
use Rattle.hm_graph_classes.proofs.TakenApart.{respects_begins, respects_next, none_calm, calm_alike}
use Rattle.hm_graph_classes.proofs.apart.apart.Goals as goal

pub loop-init : goal.loop-init
loop-init c =
    let g = c.args.graph.now in
    let begin = c.in_ok-begin.begin.items in
    let new = c.in_ok-now.now.items in
    let r = subst (λ l. IsRefined g l new) c.deref.ensures.value c.in_ok-now.ensures in
    record {
      numbers = respects_begins g c.requires begin new c.in_ok-begin.ensures.0 c.in_ok-begin.ensures.1 r;
      calm = none_calm g c.new-calm.result.items c.new-calm.ensures.items;
    }

pub loop-preserved : goal.loop-preserved
loop-preserved c =
    let g = c.args.graph.now in
    let old = c.loop.now.items in
    let new = c.in_ok-next.next.items in
    let r : IsRenumbered g c.loop.calm.items old new =
    subst (λ l. IsRenumbered g c.loop.calm.items l new) c.deref-in-loop-2.ensures.value
    (subst (λ l. IsRenumbered g l c.deref-in-loop-2.result.now new) c.deref-in-loop.ensures.value c.in_ok-next.ensures) in
    let numbers = respects_next g c.requires c.loop.calm.items old new c.loop.invariant.numbers c.loop.invariant.calm r in
    let calm : AreCalm g old new c.in_ok-calm.calm.items =
    subst (λ l. AreCalm g old l c.in_ok-calm.calm.items) c.deref-in-loop-7.ensures.value
    (subst (λ l. AreCalm g l c.deref-in-loop-7.result.now c.in_ok-calm.calm.items) c.deref-in-loop-6.ensures.value c.in_ok-calm.ensures) in
    record {
      numbers = numbers;
      calm = calm_alike g c.requires old new c.loop.invariant.numbers numbers c.in_ok-calm.calm.items calm;
    }
