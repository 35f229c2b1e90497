use Rattle.std.proofs.Common.{◌∙◌, sym, ap, subst}
use Rattle.std.specs.Str.{IsUtf8}
use Rattle.std.proofs.lemmas.List.{take_all}
use Rattle.hm_lines.specs.Values.{escaped, text_of}
use Rattle.hm_lines.proofs.EscapedText.{escaped_utf8}
use Rattle.hm_lines.proofs.Laws.{escaped_text}
use Rattle.hm_lines.proofs.values.escape.Goals as goal

pub returns-clause-utf8 : goal.returns-clause-utf8
returns-clause-utf8 c =
    let is = c.loop-byte.invariant ∙ ap escaped (take_all c.loop-byte.byte-index c.bytes-bytes.result.now c.loop-byte-test.false ∙ c.bytes-bytes.ensures.value) in
    subst IsUtf8 (sym is) (escaped_utf8 c.args.text.now c.bytes-bytes.ensures.utf8)

pub returns-clause-again : goal.returns-clause-again
returns-clause-again c clean =
    let is = c.loop-byte.invariant ∙ ap escaped (take_all c.loop-byte.byte-index c.bytes-bytes.result.now c.loop-byte-test.false ∙ c.bytes-bytes.ensures.value) in
    ap text_of is ∙ escaped_text c.args.text.now clean
