use Rattle.std.proofs.Common.{◌≡◌, take}
use Rattle.hm_alike.specs.Groups.{lent}
use Rattle.hm_alike.proofs.tests.lent_names.Given as goal

abbrev pub invariant-loop-name : goal.invariant-loop-name
invariant-loop-name l = lent l.all.items ≡ take l.name-index l.names
