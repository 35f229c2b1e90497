use Rattle.hm_graph_classes.specs.Partitions.{IsQuotient}
use Rattle.hm_graph_classes.proofs.quotient.quotient.Given as goal

abbrev pub invariant-loop-head : goal.invariant-loop-head
invariant-loop-head l = IsQuotient l.graph l.head-items l.numbers.items l.vertices.items l.head-index
