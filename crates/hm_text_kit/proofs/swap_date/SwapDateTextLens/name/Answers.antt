use Rattle.hm_text_kit.specs.DateLaws.{swapping_dates_lawful}
use Rattle.hm_text_kit.proofs.swap_date.SwapDateTextLens.name.Goals as goal

pub returns-clause-lawful : goal.returns-clause-lawful
returns-clause-lawful c = swapping_dates_lawful c.args.self.now.name
