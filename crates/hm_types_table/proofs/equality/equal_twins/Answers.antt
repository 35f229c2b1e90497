use Rattle.hm_types_table.proofs.EqualNodes.{equal_twins}
use Rattle.hm_types_table.proofs.equality.equal_twins.Goals as goal

pub returns : goal.returns
returns c = equal_twins c.eq.result c.args.one.now c.args.two.now c.eq.ensures
