use Rattle.hm_schema_lines.proofs.Tokens.{none_first, no_bytes, word_answers, quoted_answers}
use Rattle.hm_schema_lines.proofs.token.read_token.Goals as goal

pub returns-in_default : goal.returns-in_default
returns-in_default c = none_first _ (no_bytes _ c.in_default.ensures.value)

pub returns-then-first-eq34 : goal.returns-then-first-eq34
returns-then-first-eq34 c = quoted_answers _ _ c.in-Some.ensures.value c.if-first-eq34.true _ c.first_quoted.ensures

pub returns : goal.returns
returns c = word_answers _ _ c.in-Some.ensures.value c.if-first-eq34.false c.if-first-eq63.false c.if-first-eq43.false _ c.first_word.ensures
