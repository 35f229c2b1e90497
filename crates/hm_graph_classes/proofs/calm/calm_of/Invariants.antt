use Rattle.hm_graph_classes.specs.Calm.{AreCalmBelow}
use Rattle.hm_graph_classes.proofs.calm.calm_of.Given as goal

abbrev pub invariant-loop-i : goal.invariant-loop-i
invariant-loop-i l = AreCalmBelow l.graph l.old l.new l.i l.calm.items
