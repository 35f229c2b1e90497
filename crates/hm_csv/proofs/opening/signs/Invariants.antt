use Rattle.hm_csv.proofs.Signs.{AreLateSigns}
use Rattle.hm_csv.proofs.opening.signs.Given as goal

abbrev pub invariant-loop-at : goal.invariant-loop-at
invariant-loop-at l = AreLateSigns l.columns l.at l.signs.items l.count
