use Rattle.std.proofs.Common.{arith}
use Rattle.std.proofs.lemmas.Map.Text.{text_keys}
use Rattle.hm_schema_lines.proofs.firsts.keep_first.Goals as goal

pub returns : goal.returns
returns c = λ q. grind (arith, text_keys)
