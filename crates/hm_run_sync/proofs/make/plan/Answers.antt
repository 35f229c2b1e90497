use Rattle.std.proofs.Common.{rules}
use Rattle.hm_run_files.specs.Files.{all_bytes}
use Rattle.hm_run_files.proofs.Steps.{computes_stop, computes_as}
use Rattle.hm_run_handed.specs.Handed.{handed_in}
use Rattle.hm_run_sync.specs.Reads.{before_of}
use Rattle.hm_run_sync.specs.Verdict.{names_in, MakesOf, Makes}
use Rattle.hm_run_sync.proofs.Opened.{all_opened}
use Rattle.hm_run_sync.proofs.Planned.{reads_first, made_from}
use Rattle.hm_run_sync.proofs.make.plan.Goals as goal

pub plan_of-requires-clause-opened : goal.plan_of-requires-clause-opened
plan_of-requires-clause-opened g c = all_opened _ _ _ c.in_ok-inputs.ensures.0

pub returns-in_err-inputs : goal.returns-in_err-inputs
returns-in_err-inputs g c =
    let h = (handed_in c.args.given (λ o. (goal.Format-dyn g o).means o.1) (λ o. (goal.TextLens-dyn g o).meaning o.1)) in
    computes_stop (Makes h (names_in c.args.files) (all_bytes c.args.loads)) _ _ _ (search rules)
    c.in_err-inputs.ensures (reads_first h (names_in c.args.files) (all_bytes c.args.loads))

pub returns : goal.returns
returns g c =
    let h = (handed_in c.args.given (λ o. (goal.Format-dyn g o).means o.1) (λ o. (goal.TextLens-dyn g o).meaning o.1)) in
    computes_as (MakesOf h (names_in c.args.files) (before_of c.in_ok-inputs.inputs)) (Makes h (names_in c.args.files) (all_bytes c.args.loads))
    (made_from h (names_in c.args.files) (all_bytes c.args.loads) (before_of c.in_ok-inputs.inputs) c.in_ok-inputs.ensures.0) c.plan_of.result c.plan_of.ensures
