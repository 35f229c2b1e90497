use Rattle.std.proofs.Common.{refl}
use mathlib.Core.Bool.{false≢true}
use Rattle.hm_terms.specs.Lenses.{constant}
use Rattle.hm_types_rules.specs.Faults.{fault_constant}
use Rattle.hm_types_rules.specs.Typing.{goes_constant}
use Rattle.hm_types_terms.proofs.Telling.{told_at}
use Rattle.hm_types_terms.proofs.leaves.constant.Goals as goal

pub returns-then-not-member-clause-fault : goal.returns-then-not-member-clause-fault
returns-then-not-member-clause-fault c =
    told_at c.args.course.now c.args.table.now (constant c.args.tree.now c.args.default.now) c.args.number c.args.at 3 c.unmet.result c.unmet.ensures
    (λ types t. fault_constant (λ m. false≢true (c.if-not-member.ensures.1 m)))

pub returns-clause-view : goal.returns-clause-view
returns-clause-view c = record {
  in_range = c.in_ok-exactly.ensures.in_range;
  goes = λ types t. goes_constant (c.if-not-member.ensures.0 refl) c.in_ok-exactly.ensures.exactly;
}
