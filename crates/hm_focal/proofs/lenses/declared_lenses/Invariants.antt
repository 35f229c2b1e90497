use Rattle.std.proofs.Common.{take}
use Rattle.hm_focal.specs.OwnLines.{own_values}
use Rattle.hm_focal.proofs.LensNames.{ArePlaced}
use Rattle.hm_focal.proofs.lenses.declared_lenses.Given as goal

abbrev pub invariant-loop-line : goal.invariant-loop-line
invariant-loop-line l = ArePlaced (own_values (take l.line-index l.own)) l.firsts l.place
