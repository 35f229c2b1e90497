use Rattle.std.proofs.Common.{◌∙◌, refl, ap, sym, take}
use Rattle.std.proofs.lemmas.List.{take_all}
use Rattle.hm_lines_cards.specs.Lent.{lent, plain}
use Rattle.hm_lines_files.proofs.WrittenLines.{lines_more, extends_as, text_in, texts_in, texts_plain}
use Rattle.hm_lines_files.proofs.rewriting.append_kept.Goals as goal

pub loop-line-preserved : goal.loop-line-preserved
loop-line-preserved c =
    lines_more c.args.writer.now c.loop-line.writer c.append.new.self c.args.lines.now c.loop-line.line-index _ _ c.loop-line-test.true refl text_in
    c.loop-line.invariant c.in_ok-append.ensures

pub returns : goal.returns
returns c =
    let lines = c.args.lines.now in
    extends_as c.args.writer.now c.loop-line.writer (texts_in (take c.loop-line.line-index lines)) (plain (lent lines))
    (ap texts_in (take_all c.loop-line.line-index lines c.loop-line-test.false) ∙ sym (texts_plain lines)) c.loop-line.invariant
