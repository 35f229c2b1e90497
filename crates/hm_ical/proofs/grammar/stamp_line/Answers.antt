use Rattle.hm_ical.proofs.Laws.{stamp_is_line}
use Rattle.hm_ical.proofs.grammar.stamp_line.Goals as goal

pub returns-clause-parts : goal.returns-clause-parts
returns-clause-parts c = stamp_is_line
