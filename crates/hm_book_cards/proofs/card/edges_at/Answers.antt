use Rattle.std.proofs.Common.{◌∙◌, map, sym, ap}
use Rattle.std.specs.Option.{option_copied}
use Rattle.hm_tree.specs.Names.{Name}
use Rattle.hm_tree.specs.Nodes.{Tree}
use Rattle.hm_tree.specs.Sets.{ascending}
use Rattle.hm_schema.proofs.NamesOf.{ascending-names_of}
use Rattle.hm_book_cards.specs.Cards.{texts_in}
use Rattle.hm_book_cards.proofs.TextTrees.{none_ascending}
use Rattle.hm_book_cards.proofs.card.edges_at.Goals as goal

pub returns-in-Some : goal.returns-in-Some
returns-in-Some c =
    ap (λ o. ascending (texts_in o)) (sym c.child.ensures ∙ ap option_copied c.in-Some.is) ∙ ascending-names_of c.in-Some.texts.now
    ∙ ap (map (λ (e : Name × Tree). e.0)) (sym c.edges.ensures)

pub returns-in-None : goal.returns-in-None
returns-in-None c = ap (λ o. ascending (texts_in o)) (sym c.child.ensures ∙ ap option_copied c.in-None.is) ∙ none_ascending
