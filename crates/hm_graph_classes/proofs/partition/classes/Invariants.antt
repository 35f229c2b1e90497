use Rattle.std.proofs.Common.{length}
use Rattle.hm_graph_classes.proofs.Partitions.{IsPartition, slack}
use Rattle.hm_graph_classes.proofs.partition.classes.Given as goal

abbrev pub invariant-loop-now : goal.invariant-loop-now
invariant-loop-now l = IsPartition l.graph l.now.items

abbrev pub decreases-loop-now : goal.decreases-loop-now
decreases-loop-now l = slack (length l.graph) l.now.items
