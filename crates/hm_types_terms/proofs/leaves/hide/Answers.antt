use Rattle.hm_terms.specs.Lenses.{merge}
use Rattle.hm_types_terms.proofs.Telling.{told_at}
use Rattle.hm_types_terms.proofs.leaves.hide.Goals as goal

pub returns-in-Some-clause-view : goal.returns-in-Some-clause-view
returns-in-Some-clause-view c = record {
  in_range = rw c.in-Some.is at c.in_ok-view.ensures.in_range;
  goes = λ types t. (rw c.in-Some.is at c.in_ok-view.ensures.hidden) types;
}

pub returns-in-None-clause-fault : goal.returns-in-None-clause-fault
returns-in-None-clause-fault c =
    told_at c.args.course.now c.args.table.now (merge c.args.first.now c.args.second.now) c.args.number c.args.at 11 c.unmet.result c.unmet.ensures
    (λ types t. (rw c.in-None.is at c.in_ok-view.ensures.hidden) types c.args.number)
