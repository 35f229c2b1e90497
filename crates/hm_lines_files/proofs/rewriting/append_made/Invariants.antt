use Rattle.std.proofs.Common.{take}
use Rattle.hm_lines_cards.specs.Lent.{all_bytes}
use Rattle.hm_lines_files.specs.WrittenLines.{Extends}
use Rattle.hm_lines_files.proofs.rewriting.append_made.Given as goal

abbrev pub invariant-loop-line : goal.invariant-loop-line
invariant-loop-line l = Extends l.fn.writer l.writer (all_bytes (take l.line-index l.lines))
