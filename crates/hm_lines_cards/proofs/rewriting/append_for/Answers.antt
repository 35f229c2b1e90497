use Rattle.std.proofs.Common.{◌≡◌, ◌∙◌, ◌++◌, List, sym, ap, subst}
use Rattle.std.specs.Prelude.{OnOk}
use Rattle.std.specs.FinSet.{from_list}
use Rattle.hm_tree.specs.Names.{Name, name_cmp}
use Rattle.hm_lines_cards.specs.Lines.{Line}
use Rattle.hm_lines_cards.specs.Lent.{lent, all_bytes, plain}
use Rattle.hm_lines_cards.proofs.NewLines.{lines_for_one}
use Rattle.hm_lines_cards.proofs.rewriting.append_for.Goals as goal

pub returns : goal.returns
returns c =
    subst (λ (ls : List Line). OnOk c.append_others-2.result (all_bytes c.append_others-2.new.new.items ≡ all_bytes c.args.new.now.items ++ plain ls))
    (lines_for_one c.args.card.now (lent c.args.lines.now) c.args.property.now c.args.target c.if-property.false c.requires.target
    (sym c.is_some.ensures ∙ c.if-is_some.false) c.in_ok-none.none
    (c.in_ok-none.ensures ∙ ap (λ (ns : List Name). from_list {R = name_cmp} ns) c.new.ensures.items) _ c.edges_at-texts.ensures) c.append_others-2.ensures
