use Rattle.std.proofs.Common.{sym}
use Rattle.hm_lines.proofs.Folds.{none_found}
use Rattle.hm_lines.proofs.unfolding.without_folds.Goals as goal

pub returns-in-None : goal.returns-in-None
returns-in-None c = sym (none_found c.args.folded.now c.in-None.ensures)
