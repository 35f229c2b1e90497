use Rattle.std.proofs.Common.{◌≡◌, ◌++◌, take}
use Rattle.hm_changes_alike.specs.Parents.{parents_in, lent_paths}
use Rattle.hm_changes_alike.proofs.parents.append_parents.Given as goal

abbrev pub invariant-loop-change : goal.invariant-loop-change
invariant-loop-change l = lent_paths l.parents.items ≡ lent_paths l.initial.parents.items ++ parents_in (take l.change-index l.changes)
