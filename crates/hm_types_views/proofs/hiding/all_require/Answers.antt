use Rattle.std.proofs.Common.{rules, refl}
use Rattle.hm_schema.proofs.Lists.{all_next, all_done}
use Rattle.hm_schema.specs.Shapes.{Requires}
use Rattle.hm_types_views.proofs.hiding.all_require.Goals as goal

pub loop-shape-preserved : goal.loop-shape-preserved
loop-shape-preserved c = all_next (Requires c.args.name.now) c.args.shapes.now _ _ (search rules) c.shape-item.is c.loop-shape.invariant
    (search rules)

pub returns : goal.returns
returns c = (λ _. all_done (Requires c.args.name.now) c.args.shapes.now _ (search rules) c.loop-shape.invariant, λ _. refl)
