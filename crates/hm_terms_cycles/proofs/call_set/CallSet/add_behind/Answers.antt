use Rattle.std.proofs.Common.{[], refl, ◌∙◌}
use Rattle.hm_terms_cycles.specs.CallSets.{BehindOne}
use Rattle.hm_terms_cycles.proofs.Adding.{adds_there, adds_both, behind_none, behind_more}
use Rattle.hm_terms_cycles.proofs.call_set.CallSet.add_behind.Goals as goal

pub loop-call-init : goal.loop-call-init
loop-call-init c = record {
  set = c.requires.set;
  adds = adds_there (BehindOne c.args.way []) _ (λ x h. absurd (behind_none c.args.way x h));
  count = refl;
}

pub loop-call-preserved : goal.loop-call-preserved
loop-call-preserved c = record {
  set = c.in_ok-add.ensures.set;
  adds = adds_both _ _ _ _ _ _ c.loop-call.invariant.adds c.in_ok-add.ensures.adds
      (behind_more c.args.way _ c.args.calls.now c.loop-call.call-index _ c.loop-call-test.true c.and.ensures);
  count = c.add.ensures.count ∙ c.loop-call.invariant.count;
}
