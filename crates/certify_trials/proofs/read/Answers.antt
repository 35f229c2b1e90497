use Rattle.hm_schema_text.proofs.Laws.{schema_no_twins}
use Rattle.certify_trials.proofs.read.Goals as goal

pub returns : goal.returns
returns g c = schema_no_twins c.deref.result.now c.in-Ok.schema (c.in-Ok.ensures (λ e. let f : ⊥ = cc in f))
