use Rattle.std.proofs.Common.{◌≡◌, drop}
use Rattle.hm_lines_cards.specs.Rewriting.{property_of}
use Rattle.hm_lines_cards.specs.Lent.{line_of}
use Rattle.hm_lines_cards.proofs.rewriting.property_of.Given as goal

abbrev pub invariant-loop-place : goal.invariant-loop-place
invariant-loop-place l = property_of (drop l.place l.properties) (line_of l.line) ≡ property_of l.properties (line_of l.line)
