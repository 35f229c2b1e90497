use Rattle.hm_graph_classes.specs.Apart.{Respects}
use Rattle.hm_graph_classes.proofs.TakenApart.{CalmAlike}
use Rattle.hm_graph_classes.proofs.apart.apart.Given as goal

abbrev pub invariant-loop : goal.invariant-loop
invariant-loop l = record {
  numbers : Respects l.graph l.now.items;
  calm : CalmAlike l.graph l.calm.items;
}
