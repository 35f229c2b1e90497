use Rattle.hm_lines_files.proofs.Laws.{form_lawful}
use Rattle.hm_vcard.specs.Cards.{vcards}
use Rattle.hm_vcard.proofs.CardForm.{vcards_form}
use Rattle.hm_vcard.proofs.format.VCardFormat.tag.Goals as goal

pub returns-clause-lawful : goal.returns-clause-lawful
returns-clause-lawful c = form_lawful vcards vcards_form
