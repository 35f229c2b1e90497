use Rattle.std.proofs.Common.{◌≡◌, Some, take, slice_get}
use Rattle.std.specs.List.{AllZip}
use Rattle.hm_schema.specs.Values.{NodeValue, node_value}
use Rattle.hm_types_schemas.specs.Marks.{number_of}
use Rattle.hm_types_schemas.specs.Writing.{IsWritten}
use Rattle.hm_types_schemas.proofs.written.written.Given as goal

abbrev pub invariant-loop-id : goal.invariant-loop-id
invariant-loop-id l = AllZip (λ v j. (n : NodeValue) → slice_get l.table j.place ≡ Some n → IsWritten (number_of l.classes l.marks) n (node_value v)) l.nodes.items (take l.id-index l.order)
