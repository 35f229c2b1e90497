use Rattle.std.proofs.Common.{rules, refl}
use Rattle.hm_schema.proofs.Lists.{all_next, all_done}
use Rattle.hm_types_table.specs.Shapes.{HasAll}
use Rattle.hm_types_table.proofs.shapes.all_have.Goals as goal

pub loop-shape-preserved : goal.loop-shape-preserved
loop-shape-preserved c = all_next (HasAll c.args.names.now c.args.inside) c.args.shapes.now _ _ (search rules) c.shape-item.is c.loop-shape.invariant
    (c.has_all.ensures.0 (search rules))

pub returns : goal.returns
returns c = (λ _. all_done (HasAll c.args.names.now c.args.inside) c.args.shapes.now _ (search rules) c.loop-shape.invariant, λ _. refl)
