use Rattle.std.proofs.Common.{◌∙◌, sym}
use Rattle.hm_schema_lines.proofs.Counts.{no_text, no_number, no_spelling}
use Rattle.hm_schema_lines.proofs.count.read_decimal.Goals as goal

pub returns-in_default : goal.returns-in_default
returns-in_default c = no_text _ c.in_default.ensures.cases.0

pub returns-in_default-parse : goal.returns-in_default-parse
returns-in_default-parse c = no_number c.in-Ok.text.now _ c.in_default-parse.ensures.value.0 c.in-Ok.ensures.cases.0

pub returns : goal.returns
returns c =
    no_spelling c.in-Ok.text.now _ c.as_str.result.now c.in-Ok-parse.number c.in-Ok-parse.ensures.value.0 c.in-Ok.ensures.cases.0
    (c.as_str.ensures.value ∙ c.in_ok-decimal.ensures.ok) (sym c.eq.ensures ∙ c.if-eq.false)
