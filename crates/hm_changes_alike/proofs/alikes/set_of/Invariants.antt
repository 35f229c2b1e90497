use Rattle.std.proofs.Common.{◌≡◌, take}
use Rattle.hm_alike.specs.Groups.{lent}
use Rattle.hm_changes_alike.proofs.alikes.set_of.Given as goal

abbrev pub invariant-loop-name : goal.invariant-loop-name
invariant-loop-name l = l.names.items ≡ lent (take l.name-index l.class)
