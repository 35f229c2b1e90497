use Rattle.std.proofs.Common.{◌≡◌, ℕ, ◌+◌, ◌-◌, length}
use Rattle.hm_types_schemas.specs.Marks.{mark_at}
use Rattle.hm_types_schemas.proofs.marks.reach.Given as goal

abbrev pub invariant-loop-marks : goal.invariant-loop-marks
invariant-loop-marks l = (c : ℕ) → mark_at l.marks.items c ≡ mark_at l.initial.marks.items c

abbrev pub decreases-loop-marks : goal.decreases-loop-marks
decreases-loop-marks l = (l.class + 1) - length l.marks.items
