use Rattle.std.proofs.Common.{rules}
use Rattle.hm_run_handed.specs.Handed.{handed_in}
use Rattle.hm_run_words.specs.Words.{meaning}
use Rattle.hm_run.proofs.Worked.{stopped_early}
use Rattle.hm_run.proofs.acting.carry_out.Goals as goal

pub returns-in_err-request : goal.returns-in_err-request
returns-in_err-request g c =
    stopped_early (handed_in c.args.given (λ o. (goal.Format-dyn g o).means o.1) (λ o. (goal.TextLens-dyn g o).meaning o.1)) (meaning c.args.words.now) (g.S.Store.contents c.args.store.now) (g.S.Store.failed c.args.store.now)
    c.in_err-request.field-0.0 c.in_err-request.ensures.means c.from_residual.result (search rules)

pub returns : goal.returns
returns g c = rw c.in_ok-request.ensures.means c.act.ensures
