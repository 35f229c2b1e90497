use Rattle.std.proofs.Common.{sym, ◌∙◌}
use Rattle.hm_marks_tokens.proofs.AllAttributes.{behind_first, behind_none}
use Rattle.hm_marks_tokens.proofs.attributes.behind_attributes.Goals as goal

pub loop-behind-preserved : goal.loop-behind-preserved
loop-behind-preserved c = sym (behind_first c.loop-behind.rest.now _ c.in-Some.behind.now c.in-Some.ensures.attribute) ∙ c.loop-behind.invariant

pub returns : goal.returns
returns c = sym (behind_none c.loop-behind.rest.now c.in_default.ensures.attribute) ∙ c.loop-behind.invariant
