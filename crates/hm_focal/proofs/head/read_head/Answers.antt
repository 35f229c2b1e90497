use Rattle.hm_focal.specs.OwnLines.{IsHeaded, equals, word}
use Rattle.hm_focal.proofs.ReadUpTo.{read_on, all_read, none_read}
use Rattle.hm_focal.proofs.Heads.{headed_on, no_head, no_text}
use Rattle.hm_focal.proofs.head.read_head.Goals as goal

pub returns-in_default-behind_gap : goal.returns-in_default-behind_gap
returns-in_default-behind_gap c = none_read IsHeaded _ _ _ c.loop-behind.invariant (no_text _ _ c.in-Some.ensures c.in_default-behind_gap.ensures)

pub returns-in-Some : goal.returns-in-Some
returns-in-Some c = all_read IsHeaded _ _ _ c.loop-behind.invariant _ (equals c.in-Some.ensures c.in-Some-behind_gap.ensures)

pub returns-in_default-2 : goal.returns-in_default-2
returns-in_default-2 c = none_read IsHeaded _ _ _ c.loop-behind.invariant
    (no_head _ c.in_default.ensures (rw c.in_default-2.is at c.in_ok-word.ensures))

pub loop-behind-preserved : goal.loop-behind-preserved
loop-behind-preserved c =
    let f = rw c.in-Some-2.is at c.in_ok-word.ensures in
    read_on IsHeaded _ _ _ c.loop-behind.invariant _ _ (λ ks end h. word f h) (headed_on _ _ _ f) _ c.in_ok-push.ensures.items
