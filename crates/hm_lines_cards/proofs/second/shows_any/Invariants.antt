use Rattle.std.proofs.Common.{◌≡◌, drop}
use Rattle.std.specs.List.{list_any}
use Rattle.hm_lines_cards.specs.Lines.{shows}
use Rattle.hm_lines_cards.specs.Lent.{lent}
use Rattle.hm_lines_cards.proofs.second.shows_any.Given as goal

abbrev pub invariant-loop-line : goal.invariant-loop-line
invariant-loop-line l = list_any (shows l.name) (lent (drop l.line-index l.lines)) ≡ list_any (shows l.name) (lent l.lines)
