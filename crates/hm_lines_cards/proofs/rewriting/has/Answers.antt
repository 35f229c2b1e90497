use Rattle.std.proofs.Common.{◌∙◌, sym, ap}
use Rattle.std.specs.Option.{option_map, is_some}
use Rattle.std.specs.FinSet.{contains}
use Rattle.std.specs.Borrow.{Bor}
use Rattle.std.specs.Prelude.{Option}
use Rattle.hm_tree.specs.Nodes.{Tree}
use Rattle.hm_schema.proofs.NamesOf.{names_of-below}
use Rattle.hm_book_cards.specs.Cards.{texts_in}
use Rattle.hm_lines_cards.proofs.Texts.{none_there, some_copied}
use Rattle.hm_lines_cards.proofs.rewriting.has.Goals as goal

pub returns-in-Some : goal.returns-in-Some
returns-in-Some c =
    c.is_some.ensures ∙ sym (some_copied c.child.result) ∙ ap is_some c.child.ensures ∙ sym (names_of-below c.in-Some.texts.now c.args.text.now)
    ∙ sym (ap (λ (o : Option (Bor Tree)). contains (texts_in (option_map (λ (t : Bor Tree). t.now) o)) c.args.text.now) c.in-Some.is)

pub returns-in-None : goal.returns-in-None
returns-in-None c =
    sym (ap (λ (o : Option (Bor Tree)). contains (texts_in (option_map (λ (t : Bor Tree). t.now) o)) c.args.text.now) c.in-None.is ∙ none_there c.args.text.now)
