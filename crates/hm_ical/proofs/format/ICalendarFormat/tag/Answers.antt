use Rattle.hm_lines_files.proofs.Laws.{form_lawful}
use Rattle.hm_ical.specs.Calendars.{ical}
use Rattle.hm_ical.proofs.Laws.{ical_form}
use Rattle.hm_ical.proofs.format.ICalendarFormat.tag.Goals as goal

pub returns-clause-lawful : goal.returns-clause-lawful
returns-clause-lawful c = form_lawful ical ical_form
