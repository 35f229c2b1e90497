use Rattle.std.proofs.Common.{rules, refl}
use Rattle.hm_schema.proofs.Lists.{all_next, all_done}
use Rattle.hm_types_views.specs.Conditions.{MayCopy}
use Rattle.hm_types_views.proofs.copying.all_may.Goals as goal

pub loop-shape-preserved : goal.loop-shape-preserved
loop-shape-preserved c = all_next (MayCopy c.args.first.now c.args.second.now c.args.listed) c.args.shapes.now _ _ (search rules) c.shape-item.is
    c.loop-shape.invariant (c.may.ensures.0 (search rules))

pub returns : goal.returns
returns c = (
  λ _. all_done (MayCopy c.args.first.now c.args.second.now c.args.listed) c.args.shapes.now _ (search rules) c.loop-shape.invariant,
  λ _. refl,
)
