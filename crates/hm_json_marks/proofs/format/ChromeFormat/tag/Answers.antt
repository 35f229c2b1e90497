use Rattle.hm_json_marks.proofs.Laws.{json_lawful}
use Rattle.hm_json_marks.proofs.format.ChromeFormat.tag.Goals as goal

pub returns-clause-lawful : goal.returns-clause-lawful
returns-clause-lawful c = json_lawful
