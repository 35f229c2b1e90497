use Rattle.hm_graph_classes.specs.Partitions.{AreNumbers}
use Rattle.hm_graph_classes.proofs.quotient.numbered.Given as goal

abbrev pub invariant-loop-i : goal.invariant-loop-i
invariant-loop-i l = AreNumbers l.firsts l.heads.items l.numbers.items l.i
