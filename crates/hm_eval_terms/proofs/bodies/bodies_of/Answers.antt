use Rattle.std.proofs.Common.{refl, ◌∙◌}
use Rattle.hm_eval_terms.proofs.Indexing.{index_more, index_kept, same_items}
use Rattle.hm_eval_terms.proofs.bodies.bodies_of.Goals.{in-Err+in_ok-copy+in_ok-insert, in_default}
use Rattle.hm_eval_terms.proofs.bodies.bodies_of.Goals as goal

pub loop-definition-preserved : goal.loop-definition-preserved
loop-definition-preserved c = elim c.match-place_of.branch [
  | in-Err+in_ok-copy+in_ok-insert w ↦
      index_more _ _ _ _ c.loop-definition-test.true c.definition-item.is c.loop-definition.invariant _ _ _ _ _ c.deref.ensures.value
      w.in-Err.ensures.absent w.in_ok-copy.ensures.value refl
      (same_items _ _ w.bodies-is ∙ w.in_ok-insert.ensures.items)
  | in_default w ↦
      index_kept _ _ _ _ c.loop-definition-test.true c.definition-item.is c.loop-definition.invariant c.place_of.result _ _ c.deref.ensures.value
      c.place_of.ensures.found w.in_default.not-Err
      (same_items _ _ w.bodies-is)
]
