use Rattle.std.proofs.Common.{take}
use Rattle.hm_lines_files.specs.WrittenLines.{Extends}
use Rattle.hm_lines_files.proofs.WrittenLines.{texts_in}
use Rattle.hm_lines_files.proofs.rewriting.append_kept.Given as goal

abbrev pub invariant-loop-line : goal.invariant-loop-line
invariant-loop-line l = Extends l.fn.writer l.writer (texts_in (take l.line-index l.lines))
