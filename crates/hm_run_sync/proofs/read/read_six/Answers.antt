use Rattle.std.proofs.Common.{rules}
use Rattle.hm_run_files.proofs.Steps.{then_go}
use Rattle.hm_run_sync.specs.Reads.{ReadsSix, before_of}
use Rattle.hm_run_sides.proofs.Laws.{stopped_seen}
use Rattle.hm_run_sync.proofs.Opened.{served}
use Rattle.hm_run_sync.proofs.read.read_six.Goals as goal

pub read_behind-requires-clause-left : goal.read_behind-requires-clause-left
read_behind-requires-clause-left g c = (served _ _ _ _ _ c.in_ok-sides.ensures.0).left.is_side

pub read_behind-requires-clause-right : goal.read_behind-requires-clause-right
read_behind-requires-clause-right g c = (served _ _ _ _ _ c.in_ok-sides.ensures.0).right.is_side

pub returns-in_err-schema : goal.returns-in_err-schema
unfolding ReadsSix
returns-in_err-schema g c = stopped_seen _ _ before_of c.in_err-schema.field-0.0 c.from_residual.result (search rules) c.in_err-schema.ensures

pub returns-in_err-sides : goal.returns-in_err-sides
unfolding ReadsSix
returns-in_err-sides g c = then_go _ _ _ _ c.in_ok-schema.ensures.0
    (stopped_seen _ _ before_of c.in_err-sides.field-0.0 c.from_residual-in_err-sides.result (search rules) c.in_err-sides.ensures)

pub returns : goal.returns
unfolding ReadsSix
returns g c = then_go _ _ _ _ c.in_ok-schema.ensures.0 (then_go _ _ _ _ c.in_ok-sides.ensures.0 c.read_behind.ensures)
