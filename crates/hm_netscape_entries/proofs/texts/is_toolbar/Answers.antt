use Rattle.std.proofs.Common.{sym, ◌∙◌}
use Rattle.hm_marks_tokens.specs.Lent.{attribute_seen}
use Rattle.hm_netscape_entries.proofs.Addresses.{toolbar_here, toolbar_behind, no_toolbar}
use Rattle.hm_netscape_entries.proofs.texts.is_toolbar.Goals as goal

pub returns-then-is_toolbar_attribute : goal.returns-then-is_toolbar_attribute
returns-then-is_toolbar_attribute c =
    sym (c.loop-attribute.invariant
    ∙ toolbar_here c.loop-attribute.rest.now (attribute_seen c.in-Some.attribute) c.in-Some.behind.now c.in-Some.ensures.attribute
    (sym c.is_toolbar_attribute.ensures ∙ c.if-is_toolbar_attribute.true))

pub loop-attribute-preserved : goal.loop-attribute-preserved
loop-attribute-preserved c =
    c.loop-attribute.invariant
    ∙ toolbar_behind c.loop-attribute.rest.now (attribute_seen c.in-Some.attribute) c.in-Some.behind.now c.in-Some.ensures.attribute
    (sym c.is_toolbar_attribute.ensures ∙ c.if-is_toolbar_attribute.false)

pub returns : goal.returns
returns c = sym (c.loop-attribute.invariant ∙ no_toolbar c.loop-attribute.rest.now c.in_default.ensures.attribute)
