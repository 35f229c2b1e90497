use Rattle.std.proofs.Common.{refl, rules}
use Rattle.hm_run_files.specs.Steps.{goes_on}
use Rattle.hm_run_files.proofs.Steps.{then_go}
use Rattle.hm_run_sides.specs.Sides.{side_value}
use Rattle.hm_run_sides.proofs.Laws.{stopped_seen}
use Rattle.hm_run_sync.specs.Reads.{OpensView}
use Rattle.hm_run_sync.proofs.read.open_view.Goals as goal

pub returns-in_err-side : goal.returns-in_err-side
unfolding OpensView
returns-in_err-side g c = stopped_seen _ _ side_value c.in_err-side.field-0.0 c.from_residual.result (search rules) c.in_err-side.ensures.opens

pub returns-in_err-check_view : goal.returns-in_err-check_view
unfolding OpensView
returns-in_err-check_view g c = then_go _ _ _ _ c.in_ok-side.ensures.opens.0
    (stopped_seen _ _ side_value c.in_err-check_view.field-0.0 c.from_residual-in_err-check_view.result (search rules) c.in_err-check_view.ensures.checks)

pub returns : goal.returns
unfolding OpensView
returns g c = (
  goes_on c.in_ok-side.ensures.opens.0 (goes_on c.in_ok-check_view.ensures.checks.0
      (refl, record { is_side = c.in_ok-side.ensures.side; members = c.in_ok-check_view.ensures.members })),
  refl,
)
