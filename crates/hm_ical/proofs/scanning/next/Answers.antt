use Rattle.hm_ical.proofs.Places.{are_lines}
use Rattle.hm_ical.proofs.scanning.next.Goals as goal

pub in_event-requires-clause-lines : goal.in_event-requires-clause-lines
in_event-requires-clause-lines c = are_lines c.in-Event.event.lines.items (rw c.in-Event.is at c.requires.sound)
