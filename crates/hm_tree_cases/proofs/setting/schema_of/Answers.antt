use Rattle.hm_schema_text.proofs.Laws.{schema_no_twins}
use Rattle.hm_tree_cases.proofs.setting.schema_of.Goals as goal

pub returns-in-Ok : goal.returns-in-Ok
returns-in-Ok c = schema_no_twins c.as_bytes.result.now c.in-Ok.schema (c.in-Ok.ensures (λ e. let f : ⊥ = cc in f))
