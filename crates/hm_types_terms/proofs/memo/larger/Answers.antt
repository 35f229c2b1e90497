use Rattle.std.proofs.Common.{Some, None, sym, ap, subst, ◌∙◌}
use Rattle.std.proofs.lemmas.Option.{slice_get-get_or}
use Rattle.hm_types_terms.specs.Memos.{AreAmong}
use Rattle.hm_types_terms.proofs.Remembering.{among_put}
use Rattle.hm_types_terms.proofs.memo.larger.Goals as goal
use Rattle.hm_types_terms.proofs.memo.larger.Goals.{in-Some, in_default}

pub loop-slot-preserved : goal.loop-slot-preserved
loop-slot-preserved c = elim c.match-slot.branch [
  | in-Some w ↦ subst (λ (more : _). AreAmong more.items c.args.slots.now) (sym w.more-is)
      (among_put c.args.slots.now c.loop-slot.more.items w.put.new.slots.items w.in-Some.known c.loop-slot.invariant w.put.ensures
      (record { slot = c.loop-slot.slot-index; is = slice_get-get_or c.args.slots.now c.loop-slot.slot-index None c.loop-slot-test.true ∙ ap Some w.in-Some.is }))
  | in_default w ↦ subst (λ (more : _). AreAmong more.items c.args.slots.now) (sym w.more-is) c.loop-slot.invariant
]
