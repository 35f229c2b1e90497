use Rattle.hm_text_kit.specs.WordLaws.{swap_lawful}
use Rattle.hm_text_kit.specs.WordTables.{swapped_in}
use Rattle.hm_text_kit.proofs.swap_words.SwapWordsTextLens.name.Goals as goal

pub returns-clause-lawful : goal.returns-clause-lawful
returns-clause-lawful c = swap_lawful c.args.self.now.name (swapped_in c.args.self.now.partners) c.args.self.now.swaps
