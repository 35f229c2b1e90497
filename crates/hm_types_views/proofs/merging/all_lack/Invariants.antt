use Rattle.std.proofs.Common.{◌≡◌, false, All, take}
use Rattle.hm_schema.specs.declared.node.Shape.{Shape}
use Rattle.hm_schema.specs.Tidied.{has_name}
use Rattle.hm_types_views.proofs.merging.all_lack.Given as goal

abbrev pub invariant-loop-shape : goal.invariant-loop-shape
invariant-loop-shape l = All (λ (b : Shape). has_name b l.name ≡ false) (take l.shape-index l.shapes)
