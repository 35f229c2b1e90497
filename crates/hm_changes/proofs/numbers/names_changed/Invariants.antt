use Rattle.std.proofs.Common.{◌≡◌, map, take}
use Rattle.hm_changes.specs.Numbers.{names_changed}
use Rattle.hm_changes.proofs.numbers.names_changed.Given as goal

abbrev pub invariant-loop-change : goal.invariant-loop-change
invariant-loop-change l = map (λ n. n.now) l.names.items ≡ names_changed (take l.change-index l.changes)
