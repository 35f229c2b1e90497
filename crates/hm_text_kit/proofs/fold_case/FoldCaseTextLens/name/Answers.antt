use Rattle.hm_text_kit.specs.FoldLaws.{folding_case_lawful}
use Rattle.hm_text_kit.proofs.fold_case.FoldCaseTextLens.name.Goals as goal

pub returns-clause-lawful : goal.returns-clause-lawful
returns-clause-lawful c = folding_case_lawful c.args.self.now.name
