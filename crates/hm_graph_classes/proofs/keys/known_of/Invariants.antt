use Rattle.hm_graph_classes.specs.Indexed.{AreKnown}
use Rattle.hm_graph_classes.proofs.keys.known_of.Given as goal

abbrev pub invariant-loop-i : goal.invariant-loop-i
invariant-loop-i l = AreKnown l.vertices l.i l.known
