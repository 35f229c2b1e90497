use Rattle.std.proofs.Common.{◌≡◌, drop}
use Rattle.std.specs.List.{list_any}
use Rattle.hm_lines_cards.specs.Lines.{is_second}
use Rattle.hm_lines_cards.specs.Lent.{lent, line_of}
use Rattle.hm_lines_cards.proofs.second.is_second.Given as goal

abbrev pub invariant-loop-property : goal.invariant-loop-property
invariant-loop-property l =
    list_any (is_second (lent l.before) (line_of l.line)) (drop l.property-index l.properties) ≡ list_any (is_second (lent l.before) (line_of l.line)) l.properties
