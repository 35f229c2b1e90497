use Rattle.hm_format.proofs.PlainLaws.{plain_lawful}
use Rattle.hm_format.proofs.plain.PlainFormat.tag.Goals as goal

pub returns-clause-lawful : goal.returns-clause-lawful
returns-clause-lawful c = plain_lawful
