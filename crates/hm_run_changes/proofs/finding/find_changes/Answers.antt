use Rattle.std.proofs.Common.{map, refl, rules}
use Rattle.std.proofs.lemmas.Result.{IfOk-at_ok}
use Rattle.hm_run_effects.specs.Effects.{output_value}
use Rattle.hm_run_files.specs.Files.{all_bytes, new_of}
use Rattle.hm_run_handed.specs.Handed.{handed_in}
use Rattle.hm_run_sync.specs.Reads.{before_of}
use Rattle.hm_run_sync.proofs.Opened.{all_opened}
use Rattle.hm_run.proofs.Doing.{names_so}
use Rattle.hm_run_changes.specs.Changing.{IsTold, FindsChanges}
use Rattle.hm_run_changes.proofs.Found.{seen_stop, refused_first, refused_then, told_so}
use Rattle.hm_run_changes.proofs.finding.find_changes.Goals as goal

pub tell-output-requires-clause-no_twins : goal.tell-output-requires-clause-no_twins
tell-output-requires-clause-no_twins g c = (all_opened _ _ _ c.in_ok-inputs.ensures.0).no_twins

pub tell-output-requires-clause-members : goal.tell-output-requires-clause-members
tell-output-requires-clause-members g c =
    let opened = all_opened _ _ _ c.in_ok-inputs.ensures.0 in
    record { left = opened.member_left; right = opened.member_right }

pub plan_of-requires-clause-opened : goal.plan_of-requires-clause-opened
plan_of-requires-clause-opened g c = all_opened _ _ _ c.in_ok-inputs.ensures.0

pub returns-in_err-inputs : goal.returns-in_err-inputs
returns-in_err-inputs g c =
    let h = (handed_in c.args.given (λ o. (goal.Format-dyn g o).means o.1) (λ o. (goal.TextLens-dyn g o).meaning o.1)) in
    let named = names_so c.args.files.now c.args.files.now c.archive-item.result c.left-item.result c.right-item.result refl c.requires.six c.archive-item.is c.left-item.is c.right-item.is in
    seen_stop (FindsChanges h c.args.most c.args.files.now (all_bytes c.args.loads)) _ c.in_err-inputs.field-0.0 c.from_residual.result (search rules) c.in_err-inputs.ensures
    (refused_first h c.args.most c.args.files.now (all_bytes c.args.loads) _ named)

pub returns-in_err-plan_of : goal.returns-in_err-plan_of
returns-in_err-plan_of g c =
    let h = (handed_in c.args.given (λ o. (goal.Format-dyn g o).means o.1) (λ o. (goal.TextLens-dyn g o).meaning o.1)) in
    let named = names_so c.args.files.now c.args.files.now c.archive-item.result c.left-item.result c.right-item.result refl c.requires.six c.archive-item.is c.left-item.is c.right-item.is in
    seen_stop (FindsChanges h c.args.most c.args.files.now (all_bytes c.args.loads)) _ c.in_err-plan_of.field-0.0 c.from_residual-in_err-plan_of.result (search rules) c.in_err-plan_of.ensures
    (refused_then h c.args.most c.args.files.now (all_bytes c.args.loads) _ named (before_of c.in_ok-inputs.inputs) c.in_ok-inputs.ensures.0)

pub returns : goal.returns
returns g c =
    let h = (handed_in c.args.given (λ o. (goal.Format-dyn g o).means o.1) (λ o. (goal.TextLens-dyn g o).meaning o.1)) in
    let named = names_so c.args.files.now c.args.files.now c.archive-item.result c.left-item.result c.right-item.result refl c.requires.six c.archive-item.is c.left-item.is c.right-item.is in (
      told_so h c.args.most c.args.files.now (all_bytes c.args.loads) _ named (before_of c.in_ok-inputs.inputs) c.in_ok-inputs.ensures.0
          (map new_of c.in_ok-plan_of.field-0.0) c.in_ok-plan_of.field-0.1 c.in_ok-plan_of.ensures.0 (output_value c.in_ok-output.field-0)
          (IfOk-at_ok (λ o. IsTold c.args.most (before_of c.in_ok-inputs.inputs) (output_value o)) c.in_ok-output.was c.tell-output.ensures.told),
      refl,
    )
