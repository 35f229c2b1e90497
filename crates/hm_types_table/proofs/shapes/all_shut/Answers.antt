use Rattle.std.proofs.Common.{rules, refl}
use Rattle.hm_schema.proofs.Lists.{all_next, all_done}
use Rattle.hm_schema.specs.Shapes.{IsShut}
use Rattle.hm_types_table.proofs.shapes.all_shut.Goals as goal

pub loop-shape-preserved : goal.loop-shape-preserved
loop-shape-preserved c = all_next IsShut c.args.shapes.now _ _ (search rules) c.shape-item.is c.loop-shape.invariant
    (c.is_shut.ensures.0 (search rules))

pub returns : goal.returns
returns c = (λ _. all_done IsShut c.args.shapes.now _ (search rules) c.loop-shape.invariant, λ _. refl)
