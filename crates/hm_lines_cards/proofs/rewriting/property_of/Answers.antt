use Rattle.std.proofs.Common.{◌∙◌, sym, ap}
use Rattle.std.specs.Prelude.{Bool}
use Rattle.hm_tree.specs.Names.{Name}
use Rattle.hm_lines_cards.specs.Lines.{is_of}
use Rattle.hm_lines_cards.specs.Lent.{line_of}
use Rattle.hm_lines_cards.proofs.LentLines.{find_here}
use Rattle.hm_lines_cards.proofs.rewriting.property_of.Goals as goal

pub returns-then-is_of-clause-property : goal.returns-then-is_of-clause-property
returns-then-is_of-clause-property c =
    find_here (λ (p : Name × Bool). is_of p.0 (line_of c.args.line.now)) c.args.properties.now c.loop-place.place c.index-properties-place.result
    c.loop-place-test.true c.index-properties-place.is c.loop-place.invariant
    (ap (λ (p : Name × Bool). is_of p.0 (line_of c.args.line.now)) c.index-properties-place.is ∙ sym c.is_of.ensures ∙ c.if-is_of.true)
