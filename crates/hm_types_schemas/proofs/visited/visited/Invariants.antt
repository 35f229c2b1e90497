use Rattle.std.proofs.Common.{◌+◌, length}
use Rattle.hm_types_schemas.specs.Visiting.{IsVisit, owed}
use Rattle.hm_types_schemas.proofs.visited.visited.Given as goal

abbrev pub invariant-loop-id : goal.invariant-loop-id
invariant-loop-id l = IsVisit l.table l.classes l.fn.root l.order.items l.marks.items l.todo.items

abbrev pub decreases-loop-id : goal.decreases-loop-id
decreases-loop-id l = length l.todo.items + owed l.table l.classes l.marks.items
