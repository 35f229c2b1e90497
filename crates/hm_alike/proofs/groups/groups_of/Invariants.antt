use Rattle.std.proofs.Common.{take}
use Rattle.hm_alike.specs.Groups.{AreGroups, bytes_of, lent, lent_lists}
use Rattle.hm_alike.proofs.groups.groups_of.Given as goal

-- the names up to here are grouped
abbrev pub invariant-loop-name : goal.invariant-loop-name
invariant-loop-name l = AreGroups (lent (take l.name-index l.names)) (bytes_of l.texts.keys) (lent_lists l.groups.items)
