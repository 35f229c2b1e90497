use Rattle.std.proofs.Common.{refl, rules}
use Rattle.hm_run_files.specs.Steps.{goes_on}
use Rattle.hm_run_files.proofs.Steps.{then_go}
use Rattle.hm_run_sync.specs.Reads.{ReadsBehind, before_of}
use Rattle.hm_run_sides.proofs.Laws.{stopped_seen}
use Rattle.hm_run_sync.proofs.read.read_behind.Goals as goal

pub returns-in_err-archive : goal.returns-in_err-archive
unfolding ReadsBehind
returns-in_err-archive g c = stopped_seen _ _ before_of c.in_err-archive.field-0.0 c.from_residual.result (search rules) c.in_err-archive.ensures

pub returns-in_err-replicas : goal.returns-in_err-replicas
unfolding ReadsBehind
returns-in_err-replicas g c = then_go _ _ _ _ c.in_ok-archive.ensures.0
    (stopped_seen _ _ before_of c.in_err-replicas.field-0.0 c.from_residual-in_err-replicas.result (search rules) c.in_err-replicas.ensures)

pub returns : goal.returns
unfolding ReadsBehind
returns g c = (goes_on c.in_ok-archive.ensures.0 (goes_on c.in_ok-replicas.ensures.0 refl), refl)
