use Rattle.std.proofs.Common.{sym, refl, ◌∙◌, true≢false}
use Rattle.hm_marks_tokens.proofs.Literal.{some_ampersand, no_ampersand, literal_read}
use Rattle.hm_marks_tokens.proofs.entities.is_literal.Goals as goal

pub returns-in-None-clause-ampersand : goal.returns-in-None-clause-ampersand
returns-in-None-clause-ampersand c = (λ t. no_ampersand c.args.bytes.now c.in-None.ensures, λ e. refl)

pub returns-in-None-clause-read : goal.returns-in-None-clause-read
returns-in-None-clause-read c = λ t. literal_read c.args.bytes.now (no_ampersand c.args.bytes.now c.in-None.ensures)

pub returns-in-Some-clause-ampersand : goal.returns-in-Some-clause-ampersand
returns-in-Some-clause-ampersand c = (
  λ t. absurd (true≢false (sym t)),
  λ e. absurd (true≢false (sym (some_ampersand c.args.bytes.now _ c.in-Some.ensures) ∙ e)),
)
