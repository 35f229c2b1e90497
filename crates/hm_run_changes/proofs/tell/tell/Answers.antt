use Rattle.std.proofs.Common.{refl}
use Rattle.std.proofs.lemmas.Result.{IfOk-weaker}
use Rattle.hm_run_sync.specs.Reads.{before_of}
use Rattle.hm_run_sync.specs.Verdict.{outcome_of}
use Rattle.hm_run_changes.proofs.Telling.{told, told_left, told_right}
use Rattle.hm_run_changes.proofs.tell.tell.Goals as goal

pub returns-then-records-clause-told : goal.returns-then-records-clause-told
returns-then-records-clause-told c = IfOk-weaker c.tell_as.result _ _ (λ output t. told_right c.args.most (before_of c.args.inputs.now) c.requires.members
    c.holds_nothing-first.result c.holds_nothing-first.ensures _ _ refl (c.if-records.ensures.0 refl) t) c.tell_as.ensures

pub returns-then-records-2-clause-told : goal.returns-then-records-2-clause-told
returns-then-records-2-clause-told c = IfOk-weaker c.tell_as-then-records-2.result _ _ (λ output t. told_left c.args.most (before_of c.args.inputs.now) c.requires.members
    c.holds_nothing-first.result c.holds_nothing-first.ensures _ _ refl (c.if-records-2.ensures.0 refl) t) c.tell_as-then-records-2.ensures

pub returns-in-Ok-clause-told : goal.returns-in-Ok-clause-told
returns-in-Ok-clause-told c = IfOk-weaker c.tell_outcome-output.result _ _ (λ output t. told c.args.most (before_of c.args.inputs.now)
    (outcome_of c.in-Ok.outcome) _ _ c.in-Ok.ensures.reconciled.outcome c.in-Ok.ensures.reconciled.conflicts
    c.holds_nothing-first.result c.holds_nothing-first.ensures t) c.tell_outcome-output.ensures
