use Rattle.hm_eval_terms.proofs.ValueSteps.{put_found, put_one, old_one, writable, old_readable, text_puts}
use Rattle.hm_eval_terms.proofs.texts.put_text.Goals as goal

pub named-lens-requires : goal.named-lens-requires
named-lens-requires g c = put_found _ _ _ _ c.requires

pub name_before-old-requires : goal.name_before-old-requires
name_before-old-requires g c = old_one _ _ _ _ c.requires

pub value_of-requires : goal.value_of-requires
value_of-requires g c = put_one _ _ _ _ c.requires

pub made_by-requires-clause-text : goal.made_by-requires-clause-text
made_by-requires-clause-text g c = writable _ _ _ _ c.requires _ _ _ c.named-lens.ensures c.value_of.ensures c.name_before-old.ensures

pub made_by-requires-clause-before : goal.made_by-requires-clause-before
made_by-requires-clause-before g c =
    old_readable _ _ _ _ c.requires _ _ _ c.named-lens.ensures c.value_of.ensures c.name_before-old.ensures

pub returns : goal.returns
returns g c =
    text_puts _ _ _ _ c.requires _ _ _ c.named-lens.ensures c.value_of.ensures c.name_before-old.ensures _ _ c.in_ok-made.ensures c.in_ok-value.ensures
