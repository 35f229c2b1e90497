use Rattle.std.proofs.Common.{◌≡◌, take}
use Rattle.hm_changes_alike.proofs.alikes.path_of.Given as goal

abbrev pub invariant-loop-name : goal.invariant-loop-name
invariant-loop-name l = l.names.items ≡ take l.name-index l.path
