use Rattle.std.proofs.Common.{sym, subst}
use Rattle.hm_types_terms.specs.Memos.{AreAmong}
use Rattle.hm_types_terms.proofs.Remembering.{remembers, among_itself}
use Rattle.hm_types_terms.proofs.memo.Memo.remember.Goals as goal
use Rattle.hm_types_terms.proofs.memo.Memo.remember.Goals.{then-self-len+in_ok-self, else-self-len}

pub returns : goal.returns
returns c = remembers c.args.self.now _ c.args.lens c.args.at c.args.view c.if-self-len.self.slots.items among c.put.ensures
  where
    among : AreAmong c.if-self-len.self.slots.items c.args.self.now.slots.items
    among = elim c.if-self-len.branch [
      | then-self-len+in_ok-self w ↦
          subst (λ (s : _). AreAmong s.slots.items c.args.self.now.slots.items) (sym w.self-is)
          (subst (AreAmong w.in_ok-self.field-0.items) w.deref.ensures.value w.in_ok-self.ensures)
      | else-self-len w ↦ subst (λ (s : _). AreAmong s.slots.items c.args.self.now.slots.items) (sym w.self-is) (among_itself c.args.self.now.slots.items)
    ]
