use Rattle.hm_lines_cards.specs.Lent.{lent}
use Rattle.hm_lines_cards.proofs.StayingLines.{shown_stay}
use Rattle.hm_lines_cards.proofs.rewriting.rewrite.Goals as goal

pub returns-then-branch : goal.returns-then-branch
returns-then-branch c = shown_stay (lent c.args.lines.now) c.args.properties.now c.args.card.now (c.in_ok-are_shown.ensures c.if-branch.true)
