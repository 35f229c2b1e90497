use Rattle.std.proofs.Common.{◌≡◌, ◌≤◌, cond, ◌++◌, None, Some, length, map, drop, reverse, slice_get}
use Rattle.hm_schema.specs.Values.{NodeValue}
use Rattle.hm_types_schemas.specs.Ends.{other_ends, left}
use Rattle.hm_types_schemas.proofs.pushing.push_ends.Given as goal

abbrev pub invariant-loop-place : goal.invariant-loop-place
invariant-loop-place l = record {
  inside : (n : NodeValue) → slice_get l.table l.id.place ≡ Some n → l.place ≤ length n.children;
  pushed : (n : NodeValue) → slice_get l.table l.id.place ≡ Some n → reverse l.todo.items
      ≡ (map (λ c. c.1) (left l.all n (drop l.place n.children)) ++ other_ends (cond l.all n.other None)) ++ reverse l.fn.todo.items;
}

abbrev pub decreases-loop-place : goal.decreases-loop-place
decreases-loop-place l = l.place
