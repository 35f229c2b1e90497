use Rattle.std.proofs.Common.{refl, rules}
use Rattle.hm_run_files.specs.Steps.{goes_on}
use Rattle.hm_run_files.proofs.Steps.{then_go}
use Rattle.hm_run_sides.proofs.Laws.{stopped_seen}
use Rattle.hm_run_sync.specs.Reads.{OpensSides, sides_of}
use Rattle.hm_run_sync.proofs.read.open_sides.Goals as goal

pub returns-in_err-left : goal.returns-in_err-left
unfolding OpensSides
returns-in_err-left g c = stopped_seen _ _ sides_of c.in_err-left.field-0.0 c.from_residual.result (search rules) c.in_err-left.ensures

pub returns-in_err-right : goal.returns-in_err-right
unfolding OpensSides
returns-in_err-right g c = then_go _ _ _ _ c.in_ok-left.ensures.0
    (stopped_seen _ _ sides_of c.in_err-right.field-0.0 c.from_residual-in_err-right.result (search rules) c.in_err-right.ensures)

pub returns : goal.returns
unfolding OpensSides
returns g c = (goes_on c.in_ok-left.ensures.0 (goes_on c.in_ok-right.ensures.0 refl), refl)
