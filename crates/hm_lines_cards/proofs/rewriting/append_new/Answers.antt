use Rattle.hm_lines_cards.specs.Rewriting.{lines_for}
use Rattle.hm_lines_cards.specs.Lent.{lent, all_bytes}
use Rattle.hm_lines_cards.proofs.NewLines.{new_more}
use Rattle.hm_lines_cards.proofs.rewriting.append_new.Goals as goal

pub loop-place-preserved : goal.loop-place-preserved
loop-place-preserved c =
    new_more (lines_for c.args.card.now (lent c.args.lines.now)) c.args.properties.now c.loop-place.place c.index-properties-place.result
    c.loop-place-test.true c.index-properties-place.is (all_bytes c.args.new.now.items) (all_bytes c.loop-place.new.items)
    (all_bytes c.append_for.new.new.items) c.loop-place.invariant c.in_ok-append_for.ensures
