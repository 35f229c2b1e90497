use Rattle.std.proofs.Common.{◌≡◌, Some, map, take, slice_get}
use Rattle.hm_tree.specs.Names.{Name}
use Rattle.hm_schema.specs.declared.node.NodeId.{NodeId}
use Rattle.hm_schema.specs.Values.{NodeValue}
use Rattle.hm_types_schemas.specs.Ends.{left}
use Rattle.hm_types_schemas.specs.Marks.{number_of}
use Rattle.hm_types_schemas.proofs.written.children.Given as goal

abbrev pub invariant-loop-i : goal.invariant-loop-i
invariant-loop-i l = (n : NodeValue) → slice_get l.table l.id.place ≡ Some n
    → l.children.items ≡ map {B = Name × NodeId} (λ c. (c.0, number_of l.classes l.marks c.1)) (left l.all n (take l.i n.children))
