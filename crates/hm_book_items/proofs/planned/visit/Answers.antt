use Rattle.hm_book_items.specs.LentKeys.{lent_counts}
use Rattle.hm_book_items.proofs.Plans.{slot_more}
use Rattle.hm_book_items.proofs.planned.visit.Goals as goal

pub returns-in_ok-push-clause-slots : goal.returns-in_ok-push-clause-slots
returns-in_ok-push-clause-slots c = λ keys are.
    slot_more (lent_counts c.args.wanted.now) keys c.args.key.now c.args.item c.in-Some.edge c.in-Some.place
    (rw c.in-Some.is at c.in_ok-edge.ensures.edge) (rw c.in-Some.is at (c.in_ok-edge.ensures.place keys are)) c.args.slots.now.items c.push.new.self.items c.in_ok-push.ensures.items
