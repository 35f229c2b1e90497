use Rattle.std.proofs.Common.{◌∙◌}
use Rattle.hm_focal.proofs.Heads.{other_words, no_lens_body}
use Rattle.hm_focal.proofs.head.read_lens_line.Goals as goal

pub returns-in_default-lens_words : goal.returns-in_default-lens_words
returns-in_default-lens_words c =
    other_words _ _ _ (rw c.in-Some.is at c.in_ok-words.ensures) (λ n s v e. c.in_default-lens_words.ensures n s v (c.from.ensures.0 ∙ e))

pub returns-in-None : goal.returns-in-None
returns-in-None c = no_lens_body _ _ _ (rw c.in-Some.is at c.in_ok-words.ensures) (rw c.in-None.is at c.in_ok-body.ensures)
