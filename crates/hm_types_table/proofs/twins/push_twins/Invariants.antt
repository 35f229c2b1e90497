use Rattle.std.proofs.Common.{◌≡◌, ◌++◌, take}
use Rattle.hm_types_table.proofs.twins.push_twins.Given as goal

abbrev pub invariant-loop-twin : goal.invariant-loop-twin
invariant-loop-twin l = l.twins.items ≡ l.initial.twins.items ++ take l.twin-index l.more
