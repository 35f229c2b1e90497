use Rattle.std.proofs.Common.{List, refl, subst}
use Rattle.std.specs.Borrow.{Bor}
use Rattle.std.proofs.lemmas.List.{take_all}
use Rattle.hm_lines_files.specs.Components.{Bytes}
use Rattle.hm_lines_files.specs.Lent.{texts}
use Rattle.hm_lines_files.specs.WrittenLines.{Extends}
use Rattle.hm_lines_files.proofs.WrittenLines.{lines_more}
use Rattle.hm_lines_files.proofs.writer.Writer.append_all.Goals as goal

pub loop-line-preserved : goal.loop-line-preserved
loop-line-preserved c =
    lines_more c.args.self.now c.loop-line.self c.append.new.self c.args.lines.now c.loop-line.line-index _ _ c.loop-line-test.true refl
    (λ (l : Bor Bytes). l.now) c.loop-line.invariant c.in_ok-append.ensures

pub returns : goal.returns
returns c =
    subst (λ (ls : List (Bor Bytes)). Extends c.args.self.now c.loop-line.self (texts ls)) (take_all c.loop-line.line-index c.args.lines.now c.loop-line-test.false)
    c.loop-line.invariant
