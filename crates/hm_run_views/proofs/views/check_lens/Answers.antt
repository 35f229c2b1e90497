use Rattle.std.proofs.Common.{Ok, refl, rules}
use Rattle.hm_run_files.specs.Steps.{goes_on}
use Rattle.hm_run_effects.specs.Effects.{output_value, says}
use Rattle.hm_run_views.specs.Viewing.{ChecksLens}
use Rattle.hm_run_sides.proofs.Laws.{stopped_seen}
use Rattle.hm_run_views.proofs.views.check_lens.Goals as goal

pub returns-in_err-side : goal.returns-in_err-side
unfolding ChecksLens
returns-in_err-side g c = stopped_seen _ _ output_value c.in_err-side.field-0.0 c.from_residual.result (search rules) c.in_err-side.ensures.opens

pub returns : goal.returns
unfolding ChecksLens
returns g c = (goes_on c.in_ok-side.ensures.opens.0 (λ i. Ok (says (c.in_ok-text.ensures.written i))), refl)
