use Rattle.hm_graph_classes.specs.Indexed.{AreLoops}
use Rattle.hm_graph_classes.proofs.keys.loops_of.Given as goal

abbrev pub invariant-loop-i : goal.invariant-loop-i
invariant-loop-i l = AreLoops l.vertices l.i l.loops
