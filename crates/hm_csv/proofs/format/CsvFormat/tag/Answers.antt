use Rattle.hm_csv.proofs.Laws.{csv_lawful}
use Rattle.hm_csv.proofs.format.CsvFormat.tag.Goals as goal

pub returns-clause-lawful : goal.returns-clause-lawful
returns-clause-lawful c = csv_lawful
