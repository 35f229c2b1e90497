use Rattle.std.proofs.Common.{List, [], ◌∷◌, ◌++◌, ap, sym, ◌∙◌, arith}
use Rattle.std.specs.Borrow.{Bor}
use Rattle.hm_terms.specs.declared.term.Term.{Term}
use Rattle.hm_eval_terms.proofs.StageSteps.{no_stage, none_passed, stage_shown, one_passed, all_passed, drop_none, same_before, same_shows_before}
use Rattle.hm_eval_terms.proofs.stages.stages_before.Goals as goal

pub unreachable-requires : goal.unreachable-requires
unreachable-requires g c =
    no_stage _ _ _ c.new-stages.ensures.items c.in_ok-add_stages.ensures (omega (arith, c.add_stages.new.stages.ok, c.in_default.ensures.cases.0))

pub loop-stage-init : goal.loop-stage-init
loop-stage-init g c =
    none_passed _ _ _ _ _ _ _ _ c.new-stages.ensures.items c.in_ok-add_stages.ensures
    (c.in-Some.ensures.items ∙ ap (λ (l : List (Bor Term)). l ++ c.in-Some.last ∷ []) (sym c.deref-stage-items.ensures.value)) c.in_ok-passed.ensures.items

pub show_before-requires-clause-shown : goal.show_before-requires-clause-shown
show_before-requires-clause-shown g c =
    same_before _ _ _ _ c.as_ref.ensures.value
    (stage_shown _ _ _ _ _ _ _ _ _ c.loop-stage-test.true c.stage-item.is c.loop-stage.invariant c.requires.put)

pub loop-stage-preserved : goal.loop-stage-preserved
loop-stage-preserved g c =
    one_passed _ _ _ _ _ _ _ _ _ c.loop-stage-test.true c.stage-item.is c.loop-stage.invariant _ _
    (same_shows_before _ _ _ _ _ c.as_ref.ensures.value c.in_ok-next.ensures) c.in_ok-push.ensures.items

pub returns : goal.returns
returns g c =
    all_passed _ _ _ _ _ _ _ _ c.loop-stage.invariant (drop_none c.deref-stage-items.result.now c.loop-stage.stage-index (omega
    (arith, c.loop-stage-test.false))) c.in_ok-push-2.ensures.items
