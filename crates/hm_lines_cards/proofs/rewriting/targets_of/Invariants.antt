use Rattle.std.proofs.Common.{◌≡◌, take}
use Rattle.hm_lines_cards.specs.Lent.{lent, targets_of}
use Rattle.hm_lines_cards.proofs.rewriting.targets_of.Given as goal

abbrev pub invariant-loop-property : goal.invariant-loop-property
invariant-loop-property l = l.targets.items ≡ targets_of (take l.property-index l.properties) (lent l.lines)
