use Rattle.hm_terms.specs.Lenses.{hoist}
use Rattle.hm_types_terms.proofs.Telling.{told_at}
use Rattle.hm_types_terms.proofs.leaves.hoist.Goals as goal

pub returns-in-Some-clause-view : goal.returns-in-Some-clause-view
returns-in-Some-clause-view c = record { in_range = c.in-Some.ensures.in_range; goes = λ types t. c.in-Some.ensures.goes types }

pub returns-in-None-clause-fault : goal.returns-in-None-clause-fault
returns-in-None-clause-fault c =
    told_at c.args.course.now c.args.table.now (hoist c.args.name.now) c.args.number c.args.at 4 c.unmet.result c.unmet.ensures
    (λ types t. c.in-None.ensures.goes types c.args.number)
