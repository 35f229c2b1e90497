use Rattle.std.proofs.Common.{take}
use Rattle.hm_tree.specs.Sets.{AreParted}
use Rattle.hm_tree.proofs.name_set.NameSet.parts.Given as goal

abbrev pub invariant-loop-name : goal.invariant-loop-name
invariant-loop-name l = AreParted l.names (take l.name-index l.name-items) l.inside.items l.outside.items
