use Rattle.std.proofs.Common.{rules, arith}
use Rattle.hm_schema_lines.proofs.Shapes.{is_shape, has_parts}
use Rattle.hm_schema_lines.proofs.node_line.read_shape.Goals as goal

pub returns-in-Some : goal.returns-in-Some
returns-in-Some c = is_shape _ _ (record { required = search rules; optional = search rules; count = search rules })

pub returns-in-None : goal.returns-in-None
returns-in-None c = λ s h. let parts = has_parts _ s h in grind arith
