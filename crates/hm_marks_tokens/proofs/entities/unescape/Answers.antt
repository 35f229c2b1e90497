use Rattle.std.proofs.Common.{◌++◌, sym, ap, ◌∙◌, subst}
use Rattle.std.specs.Str.{IsUtf8}
use Rattle.std.proofs.lemmas.List.{append-nil}
use Rattle.hm_facts.proofs.Lists.{no_items}
use Rattle.hm_marks_tokens.specs.Entities.{unescaped}
use Rattle.hm_marks_tokens.proofs.Escaped.{read_more}
use Rattle.hm_marks_tokens.proofs.Utf8.{unescaped_utf8}
use Rattle.hm_marks_tokens.proofs.entities.unescape.Goals as goal

pub loop-byte-preserved : goal.loop-byte-preserved
loop-byte-preserved c =
    read_more c.loop-byte.made.items c.append_read.new.out.items (unescaped c.args.bytes.now) c.in-Some.byte.now c.loop-byte.rest.now c.in-Some.behind.now
    c.split_at.result.1.now c.in_ok-skipped.skipped c.loop-byte.invariant c.in-Some.ensures.cases.0 c.in_ok-skipped.ensures.read.0
    c.in_ok-skipped.ensures.read.1 c.split_at.ensures.back

pub returns-clause-utf8 : goal.returns-clause-utf8
returns-clause-utf8 c utf8 =
    let none = no_items c.loop-byte.rest.now c.in_default.ensures.cases in
    let is = sym (append-nil c.loop-byte.made.items) ∙ ap (λ l. c.loop-byte.made.items ++ unescaped l) (sym none) ∙ c.loop-byte.invariant in
    subst IsUtf8 (sym is) (unescaped_utf8 c.args.bytes.now utf8)
