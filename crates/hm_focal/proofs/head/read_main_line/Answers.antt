use Rattle.std.proofs.Common.{sym, ◌∙◌}
use mathlib.Core.Bool.{true≢false}
use Rattle.hm_focal.proofs.Heads.{not_main, no_main_body}
use Rattle.hm_focal.proofs.head.read_main_line.Goals as goal

pub returns-then-not-are_main : goal.returns-then-not-are_main
returns-then-not-are_main c =
    not_main _ _ _ (rw c.in-Some.is at c.in_ok-words.ensures)
    (λ e. true≢false (sym (c.are_main.ensures.1 (c.from.ensures.0 ∙ e)) ∙ c.if-not-are_main.true))

pub returns-in-None : goal.returns-in-None
returns-in-None c = no_main_body _ _ _ (rw c.in-Some.is at c.in_ok-words.ensures) (rw c.in-None.is at c.in_ok-body.ensures)
