use Rattle.std.proofs.Common.{◌++◌, sym, ap, ◌∙◌, subst}
use Rattle.std.specs.Str.{IsUtf8}
use Rattle.hm_marks_tokens.specs.Entities.{unescaped, escaped, IsPlain}
use Rattle.hm_marks_tokens.proofs.Escaped.{escaped_plain, escaped_read}
use Rattle.hm_marks_tokens.proofs.Utf8.{escaped_utf8}
use Rattle.hm_marks_tokens.proofs.entities.escape.Goals as goal

pub returns-clause-plain : goal.returns-clause-plain
returns-clause-plain c =
    let is = c.in_ok-add_escaped.ensures ∙ ap (λ l. l ++ escaped c.args.bytes.now) c.in_ok-made.ensures.items in
    subst IsPlain (sym is) (escaped_plain c.args.bytes.now)

pub returns-clause-again : goal.returns-clause-again
returns-clause-again c =
    let is = c.in_ok-add_escaped.ensures ∙ ap (λ l. l ++ escaped c.args.bytes.now) c.in_ok-made.ensures.items in
    ap unescaped is ∙ escaped_read c.args.bytes.now

pub returns-clause-utf8 : goal.returns-clause-utf8
returns-clause-utf8 c utf8 =
    let is = c.in_ok-add_escaped.ensures ∙ ap (λ l. l ++ escaped c.args.bytes.now) c.in_ok-made.ensures.items in
    subst IsUtf8 (sym is) (escaped_utf8 c.args.bytes.now utf8)
