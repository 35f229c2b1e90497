use Rattle.std.proofs.Common.{T, sym, subst}
use Rattle.std.specs.FinMap.{is_sorted}
use Rattle.hm_tree.specs.Names.{name_cmp}
use Rattle.hm_book_cards.specs.Cards.{Texts}
use Rattle.hm_lines_cards.specs.Lent.{lent}
use Rattle.hm_lines_cards.proofs.Texts.{texts_sorted}
use Rattle.hm_lines_cards.proofs.card.card_of.Goals as goal

pub card_tree-requires : goal.card_tree-requires
card_tree-requires c =
    subst (λ (texts : Texts). T (is_sorted name_cmp texts)) (sym c.in_ok-texts_by.ensures) (texts_sorted c.args.properties.now (lent c.args.lines.now) c.requires.names)
