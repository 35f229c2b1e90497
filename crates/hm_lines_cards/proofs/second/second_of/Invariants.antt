use Rattle.std.proofs.Common.{take}
use Rattle.hm_lines_cards.specs.Lines.{AreFew}
use Rattle.hm_lines_cards.specs.Lent.{lent}
use Rattle.hm_lines_cards.proofs.second.second_of.Given as goal

abbrev pub invariant-loop-place : goal.invariant-loop-place
invariant-loop-place l = AreFew l.properties (take l.place (lent l.lines))
