use Rattle.std.proofs.Common.{◌++◌, sym, ap, ◌∙◌}
use Rattle.std.proofs.lemmas.List.{append_assoc}
use Rattle.hm_marks_tokens.specs.Attributes.{spelled_attribute, with_value, with_address}
use Rattle.hm_marks_tokens.specs.Entities.{escaped}
use Rattle.hm_marks_tokens.specs.Lent.{attribute_seen}
use Rattle.hm_marks_tokens.proofs.OtherAddress.{stays_before, changes_here, spelled_before, stays_behind}
use Rattle.hm_marks_tokens.proofs.readdressing.add_readdressed.Goals as goal

pub returns-then-is_address : goal.returns-then-is_address
returns-then-is_address c =
    let address = escaped c.args.address.now in
    let written = spelled_attribute (with_value (attribute_seen c.in-Some.attribute) address) in
    c.in_ok-extend_from_slice.ensures.items ∙ ap (λ l. l ++ c.in-Some.behind.now) c.in_ok-add_with_value.ensures
    ∙ append_assoc c.loop-attribute.out.items written c.in-Some.behind.now
    ∙ ap (λ l. c.loop-attribute.out.items ++ l)
    (sym (changes_here address c.loop-attribute.rest.now (attribute_seen c.in-Some.attribute) c.in-Some.behind.now c.in-Some.ensures.attribute (sym c.is_address.ensures ∙ c.if-is_address.true)))
    ∙ c.loop-attribute.invariant

pub loop-attribute-preserved : goal.loop-attribute-preserved
loop-attribute-preserved c =
    let address = escaped c.args.address.now in
    let attribute = attribute_seen c.in-Some.attribute in
    let behind = with_address address c.in-Some.behind.now in
    ap (λ l. l ++ behind)
    (c.in_ok-extend_from_slice-2.ensures.items
    ∙ ap (λ l. c.loop-attribute.out.items ++ l) (spelled_before address c.loop-attribute.rest.now attribute c.in-Some.behind.now c.in-Some.ensures.attribute))
    ∙ append_assoc c.loop-attribute.out.items (spelled_attribute attribute) behind
    ∙ ap (λ l. c.loop-attribute.out.items ++ l)
    (sym (stays_before address c.loop-attribute.rest.now attribute c.in-Some.behind.now c.in-Some.ensures.attribute (sym c.is_address.ensures ∙ c.if-is_address.false)))
    ∙ c.loop-attribute.invariant

pub returns : goal.returns
returns c =
    c.in_ok-extend_from_slice-3.ensures.items
    ∙ ap (λ l. c.loop-attribute.out.items ++ l) (sym (stays_behind (escaped c.args.address.now) c.loop-attribute.rest.now c.in_default.ensures.attribute))
    ∙ c.loop-attribute.invariant
