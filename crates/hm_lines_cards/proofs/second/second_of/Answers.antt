use Rattle.std.proofs.Common.{◌∙◌, sym}
use Rattle.hm_lines_cards.proofs.Seconds.{first_second, few_still}
use Rattle.hm_lines_cards.proofs.second.second_of.Goals as goal

pub returns-then-branch : goal.returns-then-branch
returns-then-branch c =
    first_second c.args.properties.now c.args.lines.now c.loop-place.place _ c.loop-place-test.true c.loop-place.invariant
    (sym c.in_ok-is_second.ensures ∙ c.if-branch.true)

pub loop-place-preserved : goal.loop-place-preserved
loop-place-preserved c =
    few_still c.args.properties.now c.args.lines.now c.loop-place.place _ c.loop-place-test.true c.loop-place.invariant
    (sym c.in_ok-is_second.ensures ∙ c.if-branch.false)
