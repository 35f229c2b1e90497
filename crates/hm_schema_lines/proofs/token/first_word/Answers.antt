use Rattle.std.proofs.Common.{◌∙◌}
use Rattle.hm_schema_lines.specs.Tokens.{is_word_byte}
use Rattle.hm_schema_lines.proofs.Words.{run_passes, word_utf8}
use Rattle.hm_schema_lines.proofs.Tokens.{word_first}
use Rattle.hm_schema_lines.proofs.token.first_word.Goals as goal

pub returns-in_default : goal.returns-in_default
returns-in_default c = absurd
    (c.in_default.ensures.cases.0 (rw c.word_length-length.ensures (word_utf8 _ (run_passes is_word_byte c.args.bytes.now))))

pub returns : goal.returns
returns c = word_first c.args.bytes.now c.word_length-length.result c.in_ok-from_text.field-0 c.word_length-length.ensures c.if-length-eq0.false
    (c.in_ok-from_text.ensures.value ∙ c.in-Ok.ensures.cases.0)
