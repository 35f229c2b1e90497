use Rattle.std.proofs.Common.{◌≡◌, ◌+◌, map, take}
use Rattle.hm_schema_same.proofs.sameness.edges.Given as goal

abbrev pub invariant-loop-child : goal.invariant-loop-child
invariant-loop-child l = l.edges.items ≡ map (λ c. l.first + c.1.place) (take l.child-index l.child-items)
