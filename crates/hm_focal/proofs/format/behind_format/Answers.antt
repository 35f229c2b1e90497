use Rattle.std.proofs.Common.{sym, ◌∙◌}
use Rattle.std.specs.Prelude.{codes}
use mathlib.Core.Bool.{true≢false}
use Rattle.hm_focal.proofs.Fronts.{one_word_before}
use Rattle.hm_focal.proofs.format.behind_format.Goals as goal

pub returns-in_default : goal.returns-in_default
returns-in_default c = (rw c.in_default.is at c.in_ok-first.ensures) (codes "format")

pub returns : goal.returns
returns c = λ text g.
    let f = rw c.in-Some.is at c.in_ok-first.ensures in
    true≢false (sym (c.is_word.ensures.1 (one_word_before _ _ _ _ _ f g).0) ∙ c.if-is_word.false)
