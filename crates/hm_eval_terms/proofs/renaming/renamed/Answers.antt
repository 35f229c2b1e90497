use Rattle.std.proofs.Common.{rules}
use Rattle.hm_eval_terms.proofs.renaming.renamed.Goals as goal

pub returns : goal.returns
returns c = record { child = c.in-Some.child; there = search rules; text = search rules; is = search rules }
