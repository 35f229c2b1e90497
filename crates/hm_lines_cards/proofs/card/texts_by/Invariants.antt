use Rattle.std.proofs.Common.{◌≡◌, take}
use Rattle.hm_lines_cards.specs.Lines.{texts_by}
use Rattle.hm_lines_cards.specs.Lent.{lent}
use Rattle.hm_lines_cards.proofs.card.texts_by.Given as goal

abbrev pub invariant-loop-property : goal.invariant-loop-property
invariant-loop-property l = l.texts.items ≡ texts_by (take l.property-index l.properties) (lent l.lines)
