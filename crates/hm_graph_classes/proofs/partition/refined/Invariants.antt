use Rattle.hm_graph_classes.specs.Partitions.{IsRefining}
use Rattle.hm_graph_classes.proofs.partition.refined.Given as goal

abbrev pub invariant-loop-i : goal.invariant-loop-i
invariant-loop-i l = IsRefining l.graph l.now l.next.items l.i l.known
