use Rattle.std.proofs.Common.{length}
use Rattle.hm_lines_files.proofs.Numbers.{IsCounted}
use Rattle.hm_lines_files.proofs.opening.number_of.Given as goal

abbrev pub decreases-loop-rest : goal.decreases-loop-rest
decreases-loop-rest l = length l.rest

abbrev pub invariant-loop-rest : goal.invariant-loop-rest
invariant-loop-rest l = IsCounted l.text l.rest l.place l.number l.left
