use Rattle.hm_schema_text.proofs.Laws.{schema_no_twins}
use Rattle.lens_trials.proofs.programs.try_schema.Goals as goal

pub try_lens-requires : goal.try_lens-requires
try_lens-requires g c = schema_no_twins c.deref.result.now c.in-Ok.source (c.in-Ok.ensures (λ e. let f : ⊥ = cc in f))
