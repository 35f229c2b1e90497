use Rattle.std.proofs.Common.{◌≡◌, take}
use Rattle.hm_lines_cards.specs.Lines.{texts_of}
use Rattle.hm_lines_cards.specs.Lent.{lent}
use Rattle.hm_lines_cards.proofs.card.texts_of.Given as goal

abbrev pub invariant-loop-line : goal.invariant-loop-line
invariant-loop-line l = l.texts.items ≡ texts_of l.name (lent (take l.line-index l.lines))
