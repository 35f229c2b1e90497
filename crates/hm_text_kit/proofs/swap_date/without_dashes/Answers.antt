use Rattle.std.proofs.Common.{◌≡◌, ◌∙◌, sym, ap, get_or, length, ◌&&◌}
use Rattle.std.specs.Prelude.{◌==◌}
use Rattle.std.proofs.lemmas.Result.{IfOk-weaker}
use Rattle.hm_text_kit.specs.Dates.{exchanged}
use Rattle.hm_text_kit.proofs.DateExits.{compact_ascii, dashed, undashed, dashed_date}
use Rattle.hm_text_kit.proofs.swap_date.without_dashes.Goals as goal

pub of_ascii-requires : goal.of_ascii-requires
of_ascii-requires c =
    let t = c.bytes-t.result.now in
    let n : length t ≡ 10 = ap length c.bytes-t.ensures.value ∙ c.requires in
    compact_ascii (get_or t 0 0) (get_or t 1 0) (get_or t 2 0) (get_or t 3 0) (get_or t 5 0) (get_or t 6 0) (get_or t 8 0) (get_or t 9 0) (dashed_date t n (ap (λ d. (get_or t 4 0 == 45) && ((get_or t 7 0 == 45) && d)) (sym c.is_date-date.ensures) ∙ sym c.is_dashed.ensures ∙ c.if-is_dashed.true))

pub returns-then-is_dashed : goal.returns-then-is_dashed
returns-then-is_dashed c =
    let t = c.bytes-t.result.now in
    let n : length t ≡ 10 = ap length c.bytes-t.ensures.value ∙ c.requires in
    IfOk-weaker c.of_ascii.result _ _ (λ name e. e ∙ dashed t n (ap (λ d. (get_or t 4 0 == 45) && ((get_or t 7 0 == 45) && d)) (sym c.is_date-date.ensures) ∙ sym c.is_dashed.ensures ∙ c.if-is_dashed.true) ∙ ap exchanged c.bytes-t.ensures.value) c.of_ascii.ensures

pub returns : goal.returns
returns c =
    let t = c.bytes-t.result.now in
    let n : length t ≡ 10 = ap length c.bytes-t.ensures.value ∙ c.requires in
    IfOk-weaker c.copy.result _ _ (λ name e. e ∙ sym c.bytes-t.ensures.value ∙ undashed t n (ap (λ d. (get_or t 4 0 == 45) && ((get_or t 7 0 == 45) && d)) (sym c.is_date-date.ensures) ∙ sym c.is_dashed.ensures ∙ c.if-is_dashed.false) ∙ ap exchanged c.bytes-t.ensures.value) c.copy.ensures.value
