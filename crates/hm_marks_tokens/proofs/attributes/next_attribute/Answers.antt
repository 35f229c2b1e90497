use Rattle.hm_marks_tokens.proofs.AttributesRead.{by_grammar}
use Rattle.hm_marks_tokens.proofs.AllAttributes.{found_shorter}
use Rattle.hm_marks_tokens.proofs.attributes.next_attribute.Goals as goal

pub returns-clause-attribute : goal.returns-clause-attribute
returns-clause-attribute c = by_grammar c.args.bytes.now c.attribute_at.result c.attribute_at.ensures

pub returns-clause-shorter : goal.returns-clause-shorter
returns-clause-shorter c = found_shorter c.args.bytes.now c.attribute_at.result (returns-clause-attribute c)
