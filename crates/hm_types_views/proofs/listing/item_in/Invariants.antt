use Rattle.std.proofs.Common.{◌≡◌, All, take}
use Rattle.hm_schema.specs.declared.node.Shape.{Shape}
use Rattle.hm_schema_lists.specs.ListNodes.{item_shape}
use Rattle.hm_types_views.proofs.listing.item_in.Given as goal

abbrev pub invariant-loop-shape : goal.invariant-loop-shape
invariant-loop-shape l = All (λ (a : Shape). ¬ (a ≡ item_shape)) (take l.shape-index l.shapes)
