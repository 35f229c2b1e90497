use Rattle.hm_types_table.proofs.EqualNodes.{equal_ends}
use Rattle.hm_types_table.proofs.equality.equal_ends.Goals as goal

pub returns : goal.returns
returns c = equal_ends c.eq.result c.args.one.now c.args.two.now c.eq.ensures
