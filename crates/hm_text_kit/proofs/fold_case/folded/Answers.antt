use Rattle.std.proofs.Common.{sym, ◌∙◌}
use Rattle.std.proofs.lemmas.Bool.{true≢false}
use Rattle.std.proofs.lemmas.Result.{IfOk-weaker}
use Rattle.hm_text_kit.proofs.FoldExits.{folding_given, question_given}
use Rattle.hm_text_kit.proofs.fold_case.folded.Goals as goal

pub returns-then-in_class : goal.returns-then-in_class
returns-then-in_class c =
    let e = c.in_ok-folded.ensures.value ∙ c.in_ok-default_case_fold_str.ensures in
    folding_given c.args.text.now c.in_ok-folded.folded e c.in_ok-folded.ensures.utf8 (c.in_class.ensures.0 c.if-in_class.true)

pub returns : goal.returns
returns c =
    let e = c.in_ok-folded.ensures.value ∙ c.in_ok-default_case_fold_str.ensures in
    IfOk-weaker c.from_text.result _ _
    (λ n is. is ∙ question_given c.args.text.now c.in_ok-folded.folded e c.in_ok-folded.ensures.utf8
    (λ h. true≢false (sym (c.in_class.ensures.1 h) ∙ c.if-in_class.false)))
    c.from_text.ensures.value
