use Rattle.std.proofs.Common.{◌≡◌, take}
use Rattle.hm_types_table.specs.Tables.{keys}
use Rattle.hm_types_table.proofs.nodes.names_of.Given as goal

abbrev pub invariant-loop-child : goal.invariant-loop-child
invariant-loop-child l = l.names.items ≡ keys (take l.child-index l.children)
