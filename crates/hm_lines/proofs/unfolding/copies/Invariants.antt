use Rattle.std.proofs.Common.{◌≡◌, ◌++◌, length, map}
use Rattle.hm_lines.specs.Unfolding.{lines}
use Rattle.hm_lines.specs.Shown.{bytes_of}
use Rattle.hm_lines.proofs.unfolding.copies.Given as goal

abbrev pub decreases-loop-rest : goal.decreases-loop-rest
decreases-loop-rest l = length l.rest

abbrev pub invariant-loop-rest : goal.invariant-loop-rest
invariant-loop-rest l = map bytes_of l.found.items ++ lines l.rest ≡ lines l.bytes
