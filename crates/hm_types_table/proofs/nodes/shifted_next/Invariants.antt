use Rattle.std.proofs.Common.{◌≡◌, map, take}
use Rattle.hm_types_table.specs.Tables.{shift}
use Rattle.hm_types_table.proofs.nodes.shifted_next.Given as goal

abbrev pub invariant-loop-child : goal.invariant-loop-child
invariant-loop-child l = l.next.items ≡ map (λ c. shift l.by c.1) (take l.child-index l.children)
