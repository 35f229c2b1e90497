use Rattle.hm_ical.proofs.Laws.{ical_form}
use Rattle.hm_ical.proofs.grammar.CalendarsGrammar.tag.Goals as goal

pub returns-clause-lawful : goal.returns-clause-lawful
returns-clause-lawful c = ical_form
