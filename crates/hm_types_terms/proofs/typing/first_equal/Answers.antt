use Rattle.std.proofs.Common.{refl}
use Rattle.hm_types_table.proofs.EqualNodes.{equal_forms}
use Rattle.hm_types_terms.proofs.typing.first_equal.Goals as goal

pub returns-then-equal-clause-form : goal.returns-then-equal-clause-form
returns-then-equal-clause-form c = equal_forms c.args.table.now c.args.first c.args.second (c.if-equal.ensures.0 refl)
