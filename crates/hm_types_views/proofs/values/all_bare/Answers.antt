use Rattle.std.proofs.Common.{◌≡◌, rules, refl}
use Rattle.hm_schema.specs.declared.node.Shape.{Shape}
use Rattle.hm_schema.proofs.Lists.{all_next, all_done}
use Rattle.hm_types_views.specs.Values.{bare_shape}
use Rattle.hm_types_views.proofs.values.all_bare.Goals as goal

pub loop-shape-preserved : goal.loop-shape-preserved
loop-shape-preserved c = all_next (λ (a : Shape). a ≡ bare_shape c.args.count) c.args.shapes.now _ _ (search rules) c.shape-item.is
    c.loop-shape.invariant (c.is_bare_of.ensures.0 (search rules))

pub returns : goal.returns
returns c = (
  λ _. all_done (λ (a : Shape). a ≡ bare_shape c.args.count) c.args.shapes.now _ (search rules) c.loop-shape.invariant,
  λ _. refl,
)
