use Rattle.std.proofs.Common.{◌≡◌, ◌∙◌, sym, ap, get_or, length}
use Rattle.std.proofs.lemmas.Result.{IfOk-weaker}
use Rattle.hm_text_kit.specs.Dates.{exchanged}
use Rattle.hm_text_kit.proofs.DateExits.{dashed_ascii, dated, undated}
use Rattle.hm_text_kit.proofs.swap_date.with_dashes.Goals as goal

pub of_ascii-requires : goal.of_ascii-requires
of_ascii-requires c =
    let t = c.bytes-t.result.now in
    let n : length t ≡ 8 = ap length c.bytes-t.ensures.value ∙ c.requires in
    dashed_ascii (get_or t 0 0) (get_or t 1 0) (get_or t 2 0) (get_or t 3 0) (get_or t 4 0) (get_or t 5 0) (get_or t 6 0) (get_or t 7 0) (sym c.is_date.ensures ∙ c.if-is_date.true)

pub returns-then-is_date : goal.returns-then-is_date
returns-then-is_date c =
    let t = c.bytes-t.result.now in
    let n : length t ≡ 8 = ap length c.bytes-t.ensures.value ∙ c.requires in
    IfOk-weaker c.of_ascii.result _ _ (λ name e. e ∙ dated t n (sym c.is_date.ensures ∙ c.if-is_date.true) ∙ ap exchanged c.bytes-t.ensures.value) c.of_ascii.ensures

pub returns : goal.returns
returns c =
    let t = c.bytes-t.result.now in
    let n : length t ≡ 8 = ap length c.bytes-t.ensures.value ∙ c.requires in
    IfOk-weaker c.copy.result _ _ (λ name e. e ∙ sym c.bytes-t.ensures.value ∙ undated t n (sym c.is_date.ensures ∙ c.if-is_date.false) ∙ ap exchanged c.bytes-t.ensures.value) c.copy.ensures.value
