use Rattle.std.proofs.Common.{◌≡◌, ◌++◌, take}
use Rattle.hm_lines_cards.specs.Lent.{lent}
use Rattle.hm_lines_files.proofs.rewriting.append_copies.Given as goal

abbrev pub invariant-loop-line : goal.invariant-loop-line
invariant-loop-line l = lent l.lines.items ≡ lent l.fn.lines.items ++ lent (take l.line-index l.more)
