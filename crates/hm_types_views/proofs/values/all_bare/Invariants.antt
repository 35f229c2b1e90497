use Rattle.std.proofs.Common.{◌≡◌, All, take}
use Rattle.hm_schema.specs.declared.node.Shape.{Shape}
use Rattle.hm_types_views.specs.Values.{bare_shape}
use Rattle.hm_types_views.proofs.values.all_bare.Given as goal

abbrev pub invariant-loop-shape : goal.invariant-loop-shape
invariant-loop-shape l = All (λ (a : Shape). a ≡ bare_shape l.count) (take l.shape-index l.shapes)
