use Rattle.std.proofs.Common.{[], refl, sym, subst}
use Rattle.hm_types_rules.specs.Numbering.{IsDistinct}
use Rattle.hm_types_schemas.proofs.RisingShapes.{rise_distinct}
use Rattle.hm_types_schemas.proofs.distinct.distinct.Goals as goal

pub returns-then-rise : goal.returns-then-rise
returns-then-rise c =
    subst (IsDistinct [] c.args.shapes.now) (sym c.in_ok-copy_shapes.ensures) (rise_distinct c.args.shapes.now (c.if-rise.ensures refl))
