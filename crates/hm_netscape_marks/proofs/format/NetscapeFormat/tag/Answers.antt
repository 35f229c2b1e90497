use Rattle.hm_netscape_marks.proofs.Laws.{netscape_lawful}
use Rattle.hm_netscape_marks.proofs.format.NetscapeFormat.tag.Goals as goal

pub returns-clause-lawful : goal.returns-clause-lawful
returns-clause-lawful c = netscape_lawful
