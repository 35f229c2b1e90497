use Rattle.std.proofs.Common.{take}
use Rattle.hm_lines_cards.specs.Rewriting.{AreShown}
use Rattle.hm_lines_cards.specs.Lent.{lent}
use Rattle.hm_lines_cards.proofs.rewriting.are_shown.Given as goal

abbrev pub invariant-loop-property : goal.invariant-loop-property
invariant-loop-property l = AreShown (take l.property-index l.properties) l.card (lent l.lines)
