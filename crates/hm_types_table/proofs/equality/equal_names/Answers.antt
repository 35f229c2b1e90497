use Rattle.hm_types_table.proofs.EqualNodes.{equal_names}
use Rattle.hm_types_table.proofs.equality.equal_names.Goals as goal

pub returns : goal.returns
returns c = equal_names c.eq.result c.args.one.now c.args.two.now c.eq.ensures
