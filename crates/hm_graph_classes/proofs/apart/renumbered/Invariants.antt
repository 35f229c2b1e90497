use Rattle.hm_graph_classes.specs.Apart.{IsRenumbering}
use Rattle.hm_graph_classes.proofs.apart.renumbered.Given as goal

abbrev pub invariant-loop-i : goal.invariant-loop-i
invariant-loop-i l = IsRenumbering l.graph l.calm l.now l.next.items l.i l.known
