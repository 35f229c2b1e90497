use Rattle.std.proofs.Common.{Ok, refl, rules}
use Rattle.hm_run_files.specs.Steps.{goes_on}
use Rattle.hm_run_files.proofs.Steps.{then_go}
use Rattle.hm_run_effects.specs.Effects.{output_value, says}
use Rattle.hm_run_views.specs.Viewing.{ViewsFile}
use Rattle.hm_run_views.proofs.Viewed.{viewed}
use Rattle.hm_run_sides.proofs.Laws.{stopped_seen}
use Rattle.hm_run_views.proofs.views.view_file.Goals as goal

pub returns-in_err-side : goal.returns-in_err-side
unfolding ViewsFile
returns-in_err-side g c = stopped_seen _ _ output_value c.in_err-side.field-0.0 c.from_residual.result (search rules) c.in_err-side.ensures.opens

pub returns-in_err-replica : goal.returns-in_err-replica
unfolding ViewsFile
returns-in_err-replica g c = then_go _ _ _ _ c.in_ok-side.ensures.opens.0
    (viewed _ _ _ c.in_ok-side.ensures.side _
    (stopped_seen _ _ output_value c.in_err-replica.field-0.0 c.from_residual-in_err-replica.result (search rules) c.in_err-replica.ensures.opens))

pub returns : goal.returns
unfolding ViewsFile
returns g c = (
  goes_on c.in_ok-side.ensures.opens.0
      (c.in_ok-side.ensures.side, goes_on c.in_ok-replica.ensures.opens.0 (λ i. Ok (says (c.in_ok-text.ensures.value i)))),
  refl,
)
