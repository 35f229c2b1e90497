use Rattle.std.proofs.Common.{rules}
use Rattle.hm_schema_lines.proofs.NodeLines.{no_shape_line}
use Rattle.hm_schema_lines.proofs.node_line.shape_line.Goals as goal

pub returns-in-None : goal.returns-in-None
returns-in-None c = no_shape_line _ (search rules)
