use Rattle.hm_marks_tokens.proofs.NextSymbols.{symbol_once}
use Rattle.hm_marks_tokens.proofs.laws.symbols_are_known.Goals as goal

pub returns : goal.returns
returns c = λ titled bytes m n r s one other. let is = symbol_once titled bytes m n r s one other in (is.symbol, is.rest)
