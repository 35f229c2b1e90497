use Rattle.std.proofs.Common.{◌≡◌, ◌∷◌, [], All, take}
use Rattle.std.specs.FinSet.{from_list}
use Rattle.hm_schema_lists.specs.Plain.{exact_shape}
use Rattle.hm_types_table.proofs.shapes.all_alone.Given as goal

abbrev pub invariant-loop-shape : goal.invariant-loop-shape
invariant-loop-shape l = All (λ a. a ≡ exact_shape (from_list (l.name ∷ []))) (take l.shape-index l.shapes)
