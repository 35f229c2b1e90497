use Rattle.std.proofs.Common.{◌≡◌, take}
use Rattle.hm_changes.specs.Numbers.{number_of}
use Rattle.hm_changes.proofs.numbers.number_of.Given as goal

abbrev pub invariant-loop-change : goal.invariant-loop-change
invariant-loop-change l = l.number ≡ number_of l.turn (take l.change-index l.changes)
