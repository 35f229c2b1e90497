use Rattle.std.proofs.Common.{◌≡◌, ℕ, length}
use Rattle.hm_graph_classes.specs.Reduced.{class_at}
use Rattle.hm_graph_classes.proofs.partition.zeros.Given as goal

abbrev pub invariant-loop : goal.invariant-loop
invariant-loop l = record {
  size : length l.all.items ≡ l.counter;
  zero : (i : ℕ) → class_at l.all.items i ≡ 0;
}
