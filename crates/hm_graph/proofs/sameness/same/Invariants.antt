use Rattle.std.proofs.Common.{◌+◌, length}
use Rattle.hm_graph.proofs.Search.{IsSearch}
use Rattle.hm_graph.proofs.Owed.{owed}
use Rattle.hm_graph.proofs.sameness.same.Given as goal

abbrev pub invariant-loop-first : goal.invariant-loop-first
invariant-loop-first l = IsSearch l.graph l.one l.two l.parents.items l.todo.items

abbrev pub decreases-loop-first : goal.decreases-loop-first
decreases-loop-first l = length l.todo.items + owed 0 l.parents.items l.graph
