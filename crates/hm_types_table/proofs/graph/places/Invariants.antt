use Rattle.std.proofs.Common.{◌≡◌, ℕ, ◌<◌, length, slice_get, Some}
use Rattle.hm_types_table.proofs.graph.places.Given as goal

abbrev pub invariant-loop-place : goal.invariant-loop-place
invariant-loop-place l = record {
  size : length l.places.items ≡ l.place;
  places : (i : ℕ) → i < l.place → slice_get l.places.items i ≡ Some i;
}
