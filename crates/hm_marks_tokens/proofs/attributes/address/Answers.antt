use Rattle.std.proofs.Common.{Some, sym, ap, ◌∙◌}
use Rattle.hm_marks_tokens.specs.Lent.{attribute_seen}
use Rattle.hm_marks_tokens.proofs.AllAttributes.{address_here, address_behind, no_address}
use Rattle.hm_marks_tokens.proofs.attributes.address.Goals as goal

pub returns-then-is_address : goal.returns-then-is_address
returns-then-is_address c =
    ap Some c.value_bytes.ensures
    ∙ sym (address_here c.loop-attribute.rest.now (attribute_seen c.in-Some.attribute) c.in-Some.behind.now c.in-Some.ensures.attribute (sym c.is_address.ensures ∙ c.if-is_address.true))
    ∙ c.loop-attribute.invariant

pub loop-attribute-preserved : goal.loop-attribute-preserved
loop-attribute-preserved c =
    sym (address_behind c.loop-attribute.rest.now (attribute_seen c.in-Some.attribute) c.in-Some.behind.now c.in-Some.ensures.attribute (sym c.is_address.ensures ∙ c.if-is_address.false))
    ∙ c.loop-attribute.invariant

pub returns : goal.returns
returns c = sym (no_address c.loop-attribute.rest.now c.in_default.ensures.attribute) ∙ c.loop-attribute.invariant
