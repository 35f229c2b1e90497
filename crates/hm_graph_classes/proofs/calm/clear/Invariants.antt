use Rattle.std.proofs.Common.{◌≡◌, ◌↔◌, ℕ, true, take, length}
use Rattle.hm_graph_classes.specs.Calm.{Lacks, flag_at}
use Rattle.hm_graph_classes.proofs.calm.clear.Given as goal

abbrev pub invariant-loop-place : goal.invariant-loop-place
invariant-loop-place l = record {
  size : length l.flags.items ≡ length l.initial.flags.items;
  each : (i : ℕ) → (flag_at l.flags.items i ≡ true) ↔ ((flag_at l.initial.flags.items i ≡ true) × Lacks (take l.place-index l.places) i);
}
