use Rattle.std.proofs.Common.{◌≡◌, drop}
use Rattle.hm_lines_cards.specs.Lines.{texts_of}
use Rattle.hm_lines_cards.specs.Lent.{lent}
use Rattle.hm_lines_cards.proofs.card.key_of.Given as goal

abbrev pub invariant-loop-line : goal.invariant-loop-line
invariant-loop-line l = texts_of l.name (lent (drop l.line-index l.lines)) ≡ texts_of l.name (lent l.lines)
