use Rattle.std.proofs.Common.{◌≤◌}
use Rattle.hm_types_schemas.specs.Rising.{RiseBelow}
use Rattle.hm_types_schemas.proofs.distinct.rise.Given as goal

abbrev pub invariant-loop-place : goal.invariant-loop-place
invariant-loop-place l = record {
  begun : 1 ≤ l.place;
  rise : RiseBelow l.place l.shapes;
}
