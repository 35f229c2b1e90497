use Rattle.std.proofs.Common.{◌≡◌, take}
use Rattle.hm_changes.specs.Numbers.{entries_of}
use Rattle.hm_changes.proofs.numbers.entries_of.Given as goal

abbrev pub invariant-loop-change : goal.invariant-loop-change
invariant-loop-change l = l.number ≡ entries_of l.turn (take l.change-index l.changes)
