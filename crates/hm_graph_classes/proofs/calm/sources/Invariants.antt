use Rattle.hm_graph_classes.specs.Calm.{AreSources}
use Rattle.hm_graph_classes.proofs.calm.sources.Given as goal

abbrev pub invariant-loop-i : goal.invariant-loop-i
invariant-loop-i l = AreSources l.graph l.i l.lists.items
