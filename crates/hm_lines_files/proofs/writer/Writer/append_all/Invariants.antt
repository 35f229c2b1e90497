use Rattle.std.proofs.Common.{take}
use Rattle.hm_lines_files.specs.Lent.{texts}
use Rattle.hm_lines_files.specs.WrittenLines.{Extends}
use Rattle.hm_lines_files.proofs.writer.Writer.append_all.Given as goal

abbrev pub invariant-loop-line : goal.invariant-loop-line
invariant-loop-line l = Extends l.fn.self l.self (texts (take l.line-index l.lines))
