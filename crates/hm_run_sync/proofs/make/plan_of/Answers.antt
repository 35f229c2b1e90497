use Rattle.std.proofs.Common.{refl, rules}
use Rattle.hm_run_files.proofs.Steps.{computes_stop}
use Rattle.hm_run_handed.specs.Handed.{handed_in}
use Rattle.hm_run_sync.specs.Reads.{before_of}
use Rattle.hm_run_sync.specs.Verdict.{names_in, MakesOf, new_texts}
use Rattle.hm_run_sync.proofs.Planned.{unwritable, measures_first, planned}
use Rattle.hm_run_sync.proofs.make.plan_of.Goals as goal

pub returns-in_err-make_any : goal.returns-in_err-make_any
returns-in_err-make_any g c =
    let h = (handed_in c.args.given (λ o. (goal.Format-dyn g o).means o.1) (λ o. (goal.TextLens-dyn g o).meaning o.1)) in
    computes_stop (MakesOf h (names_in c.args.files) (before_of c.args.inputs)) _ _ _ (search rules)
    c.in_err-make_any.ensures (unwritable h (names_in c.args.files) (before_of c.args.inputs))

pub returns-in_err-measure_all : goal.returns-in_err-measure_all
returns-in_err-measure_all g c =
    let h = (handed_in c.args.given (λ o. (goal.Format-dyn g o).means o.1) (λ o. (goal.TextLens-dyn g o).meaning o.1)) in
    let made = c.in_ok-make_any.ensures.0 in
    computes_stop (MakesOf h (names_in c.args.files) (before_of c.args.inputs)) _ _ _ (search rules)
    c.in_err-measure_all.ensures (measures_first h (names_in c.args.files) (before_of c.args.inputs)
    made.after made.becomes (new_texts c.in_ok-make_any.field-0) made.closes _ c.in_order-news.ensures.files)

pub returns : goal.returns
returns g c =
    let h = (handed_in c.args.given (λ o. (goal.Format-dyn g o).means o.1) (λ o. (goal.TextLens-dyn g o).meaning o.1)) in
    let made = c.in_ok-make_any.ensures.0 in (
      planned h (names_in c.args.files) (before_of c.args.inputs) made.after made.becomes
          (new_texts c.in_ok-make_any.field-0) made.closes _ c.in_order-news.ensures.files
          _ c.in_ok-measure_all.ensures.0 (rw c.in_order-news.ensures.summary made.sums),
      refl,
    )
