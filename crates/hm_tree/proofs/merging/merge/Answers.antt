use Rattle.std.proofs.Common.{subst, sym}
use Rattle.hm_tree.specs.Merging.{AreMerging}
use Rattle.hm_tree.proofs.Merged.{edges_behind, merging_on}
use Rattle.hm_tree.proofs.merging.merge.Goals as goal

pub take_least-requires-clause-ones : goal.take_least-requires-clause-ones
take_least-requires-clause-ones c = edges_behind _ _ c.loop-edge.invariant.before_ones

pub take_least-requires-clause-twos : goal.take_least-requires-clause-twos
take_least-requires-clause-twos c = edges_behind _ _ c.loop-edge.invariant.before_twos

pub loop-edge-preserved : goal.loop-edge-preserved
loop-edge-preserved c =
    subst (λ es. AreMerging c.args.one.items c.args.two.items es c.take_least.new.ones.items c.take_least.new.twos.items) (sym c.in_ok-push.ensures.items)
    (merging_on _ _ _ _ _ _ _ c.in-Some.edge c.loop-edge.invariant c.in-Some.ensures)
