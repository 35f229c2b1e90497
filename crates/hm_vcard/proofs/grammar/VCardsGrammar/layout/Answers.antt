use Rattle.hm_vcard.proofs.grammar.VCardsGrammar.layout.Goals as goal

pub returns-clause-stop : goal.returns-clause-stop
returns-clause-stop c o shown = c.cards_in.ensures.stop o
