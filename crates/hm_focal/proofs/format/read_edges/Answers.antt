use Rattle.std.proofs.Common.{subst}
use Rattle.hm_focal.specs.Front.{IsFrontEdge}
use Rattle.hm_focal.specs.OwnLines.{AreEdges, last, more}
use Rattle.hm_focal.proofs.ReadUpTo.{read_on, last_read, none_read}
use Rattle.hm_focal.proofs.Formats.{edges_on, no_edges}
use Rattle.hm_focal.proofs.format.read_edges.Goals as goal

pub returns-in_default : goal.returns-in_default
returns-in_default c = none_read AreEdges _ _ _ c.loop-names.invariant (no_edges _ (rw c.in_default.is at c.in_ok-name.ensures))

pub loop-names-preserved : goal.loop-names-preserved
loop-names-preserved c =
    let f = subst (IsFrontEdge c.loop-names.rest.now c.in-Some.name) c.in-Some-behind_sign.ensures (rw c.in-Some.is at c.in_ok-name.ensures) in
    read_on AreEdges _ _ _ c.loop-names.invariant _ _ (λ ks end h. more f h) (edges_on _ _ _ f) _ c.in_ok-push.ensures.items

pub returns-in-None : goal.returns-in-None
returns-in-None c =
    let f = rw c.in-Some.is at c.in_ok-name.ensures in
    last_read AreEdges _ _ _ c.loop-names.invariant _ _ (last f c.in-None.ensures) _ c.in_ok-push.ensures.items
