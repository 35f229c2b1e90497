use Rattle.std.proofs.Common.{refl}
use mathlib.Core.Bool.{false≢true}
use Rattle.hm_terms.specs.Lenses.{call}
use Rattle.hm_types_terms.specs.Courses.{scope_of}
use Rattle.hm_types_terms.proofs.Calls.{call_missing, call_view, call_other}
use Rattle.hm_types_terms.proofs.Telling.{told_at}
use Rattle.hm_types_terms.proofs.leaves.called.Goals as goal

pub returns-in-Err-clause-fault : goal.returns-in-Err-clause-fault
returns-in-Err-clause-fault c =
    told_at c.args.course.now c.args.table.now (call c.args.name.now) c.args.number c.args.at 15 c.unmet.result c.unmet.ensures
    (λ types t. call_missing c.args.table.now (scope_of c.args.course.now) c.requires.declared c.args.name.now c.args.at c.in-Err.field-0 c.in-Err.ensures.absent c.args.number types t)

pub returns-then-not-same-clause-fault : goal.returns-then-not-same-clause-fault
returns-then-not-same-clause-fault c =
    told_at c.args.course.now c.args.table.now (call c.args.name.now) c.args.number c.args.at 15 c.unmet-then-not-same.result c.unmet-then-not-same.ensures
    (λ types t. call_other c.args.table.now (scope_of c.args.course.now) c.requires.declared c.args.name.now c.args.at c.in-Ok.place c.in-Ok.ensures.found
    c.index-course-place.result (λ s. false≢true (c.if-not-same.ensures.1 s)) c.args.number types t)

pub returns-clause-view : goal.returns-clause-view
returns-clause-view c =
    call_view c.args.table.now (scope_of c.args.course.now) c.requires.declared c.args.name.now c.args.at c.in-Ok.place c.in-Ok.ensures.found
    c.index-course-place.result (c.if-not-same.ensures.0 refl)
