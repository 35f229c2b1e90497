use Rattle.hm_types_table.proofs.EqualNodes.{equal_shapes}
use Rattle.hm_types_table.proofs.equality.equal_shapes.Goals as goal

pub returns : goal.returns
returns c = equal_shapes c.eq.result c.args.one.now c.args.two.now c.eq.ensures
