use Rattle.std.proofs.Common.{◌≡◌, drop}
use Rattle.std.specs.List.{position_from}
use Rattle.hm_lines_cards.specs.Lines.{is_of}
use Rattle.hm_lines_cards.specs.Lent.{lent}
use Rattle.hm_lines_cards.proofs.rewriting.first_of.Given as goal

abbrev pub invariant-loop-place : goal.invariant-loop-place
invariant-loop-place l = position_from (is_of l.name) l.place (lent (drop l.place l.lines)) ≡ position_from (is_of l.name) 0 (lent l.lines)
