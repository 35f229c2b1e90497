use Rattle.hm_eval_terms.proofs.ValueSteps.{text_found, shown_one, readable, text_shows}
use Rattle.hm_eval_terms.proofs.texts.show_text.Goals as goal

pub named-lens-requires : goal.named-lens-requires
named-lens-requires g c = text_found _ _ _ c.requires

pub value_of-requires : goal.value_of-requires
value_of-requires g c = shown_one _ _ _ c.requires

pub shown_by-requires : goal.shown_by-requires
shown_by-requires g c = readable _ _ _ c.requires _ _ c.named-lens.ensures c.value_of.ensures

pub returns : goal.returns
returns g c = text_shows _ _ _ c.requires _ _ c.named-lens.ensures c.value_of.ensures _ _ c.in_ok-shown.ensures c.in_ok-value.ensures
