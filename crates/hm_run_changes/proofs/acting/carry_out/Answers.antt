use Rattle.std.proofs.Common.{rules}
use Rattle.hm_run_handed.specs.Handed.{handed_in}
use Rattle.hm_run_changes.specs.Endings.{meaning}
use Rattle.hm_run_changes.proofs.Carried.{stopped_early}
use Rattle.hm_run_changes.proofs.acting.carry_out.Goals as goal

pub returns-in_err-question : goal.returns-in_err-question
returns-in_err-question g c =
    stopped_early (handed_in c.args.given (λ o. (goal.Format-dyn g o).means o.1) (λ o. (goal.TextLens-dyn g o).meaning o.1)) (meaning c.args.words.now) (g.S.Store.contents c.args.store.now) (g.S.Store.failed c.args.store.now)
    c.in_err-question.field-0.0 c.in_err-question.ensures.means c.from_residual.result (search rules)

pub returns : goal.returns
returns g c = rw c.in_ok-question.ensures.means c.act.ensures
