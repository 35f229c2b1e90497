use Rattle.std.proofs.Common.{[], ◌∷◌, ap, take}
use Rattle.std.proofs.lemmas.List.{take_all}
use Rattle.hm_lines_cards.specs.Lent.{all_bytes, bytes_of}
use Rattle.hm_lines_files.specs.Components.{Bytes}
use Rattle.hm_lines_files.proofs.WrittenLines.{lines_more, extends_as}
use Rattle.hm_lines_files.proofs.rewriting.append_made.Goals as goal

pub loop-line-preserved : goal.loop-line-preserved
loop-line-preserved c =
    lines_more c.args.writer.now c.loop-line.writer c.append.new.self c.args.lines.now c.loop-line.line-index c.line-item.result c.line-item.result
    c.loop-line-test.true c.line-item.is bytes_of c.loop-line.invariant
    (extends_as c.loop-line.writer c.append.new.self (c.text.result.now ∷ []) (bytes_of c.line-item.result ∷ []) (ap (λ (l : Bytes). l ∷ []) c.text.ensures) c.in_ok-append.ensures)

pub returns : goal.returns
returns c =
    extends_as c.args.writer.now c.loop-line.writer (all_bytes (take c.loop-line.line-index c.args.lines.now)) (all_bytes c.args.lines.now)
    (ap all_bytes (take_all c.loop-line.line-index c.args.lines.now c.loop-line-test.false)) c.loop-line.invariant
