use Rattle.hm_vcard.proofs.CardForm.{vcards_form}
use Rattle.hm_vcard.proofs.grammar.VCardsGrammar.tag.Goals as goal

pub returns-clause-lawful : goal.returns-clause-lawful
returns-clause-lawful c = vcards_form
