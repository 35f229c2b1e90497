use Rattle.std.proofs.Common.{◌∙◌, ◌++◌, ◌∷◌, [], sym, ap, arith}
use Rattle.std.proofs.lemmas.List.FromFn.{map-range_with_len_more}
use Rattle.hm_schema_text.specs.Writing.{number_name, number_names}
use Rattle.hm_schema_text.proofs.writer.number_names.Goals as goal

pub loop-number-preserved : goal.loop-number-preserved
loop-number-preserved c =
    c.in_ok-push.ensures.items
    ∙ ap (λ z. z ++ c.in_ok-number_name.field-0 ∷ []) c.loop-number.invariant
    ∙ ap (λ z. number_names c.loop-number.number ++ z ∷ []) c.in_ok-number_name.ensures
    ∙ sym (map-range_with_len_more number_name 0 c.loop-number.number c.loop-number.number (omega arith))
