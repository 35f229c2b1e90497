use Rattle.std.proofs.Common.{ap, ◌∙◌}
use Rattle.hm_marks_tokens.specs.Bytes.{is_white}
use Rattle.hm_marks_tokens.proofs.AllAttributes.{by_attributes}
use Rattle.hm_marks_tokens.proofs.attributes.are_attributes.Goals as goal

pub returns-clause-grammar : goal.returns-clause-grammar
returns-clause-grammar c = by_attributes c.args.bytes.now c.is_white.result (c.is_white.ensures ∙ ap is_white c.behind_attributes.ensures)
