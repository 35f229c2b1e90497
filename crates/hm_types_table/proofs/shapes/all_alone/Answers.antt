use Rattle.std.proofs.Common.{◌≡◌, ◌∷◌, [], rules, refl}
use Rattle.std.specs.FinSet.{from_list}
use Rattle.hm_schema.specs.declared.node.Shape.{Shape}
use Rattle.hm_schema.proofs.Lists.{all_next, all_done}
use Rattle.hm_schema_lists.specs.Plain.{exact_shape}
use Rattle.hm_types_table.proofs.shapes.all_alone.Goals as goal

pub loop-shape-preserved : goal.loop-shape-preserved
loop-shape-preserved c = all_next (λ (a : Shape). a ≡ exact_shape (from_list (c.args.name.now ∷ []))) c.args.shapes.now _ _ (search rules) c.shape-item.is
    c.loop-shape.invariant (c.is_alone.ensures.0 (search rules))

pub returns : goal.returns
returns c = (
  λ _. all_done (λ (a : Shape). a ≡ exact_shape (from_list (c.args.name.now ∷ []))) c.args.shapes.now _ (search rules) c.loop-shape.invariant,
  λ _. refl,
)
