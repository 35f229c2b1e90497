use Rattle.std.proofs.Common.{refl}
use mathlib.Core.Bool.{false≢true}
use Rattle.std.proofs.lemmas.Result.{err_from_is_err_and}
use Rattle.hm_terms.specs.Programs.{lens_of}
use Rattle.hm_types_terms.specs.Courses.{scoped, IsAt}
use Rattle.hm_types_terms.specs.Bodies.{nowhere, IsMistypedBody}
use Rattle.hm_types_terms.proofs.Telling.{told_so}
use Rattle.hm_types_terms.proofs.BodySteps.{typed_body, astray_body}
use Rattle.hm_types_terms.proofs.body.check_body.Goals as goal

pub returns-in_err-found-clause-fault : goal.returns-in_err-found-clause-fault
returns-in_err-found-clause-fault c =
    let p = err_from_is_err_and c.from_residual.result c.from_residual.ensures.1 in
    let ds = scoped c.args.texts.now c.args.declared.now in
    let l = lens_of c.args.body.now in
    rw (p.1, p.2)
    (told_so c.args.definition (IsAt ds c.args.table.now l 1 c.args.types.0) (IsMistypedBody ds c.args.table.now l c.args.types.0 c.args.types.1)
    (λ a f types t. nowhere (f types t)) c.in_err-found.field-0.0 c.in_err-found.ensures.fault)

pub returns-then-not-same-clause-fault : goal.returns-then-not-same-clause-fault
returns-then-not-same-clause-fault c = (
  refl,
  astray_body c.args.table.now c.view_of.new.table c.requires.start.formed c.view_of.ensures.extends (scoped c.args.texts.now c.args.declared.now) (lens_of c.args.body.now)
      c.args.types.0 c.args.types.1 c.requires.view c.in_ok-found.found c.in_ok-found.ensures.view (λ s. false≢true (c.if-not-same.ensures.1 s)),
)

pub returns-clause-typed : goal.returns-clause-typed
returns-clause-typed c =
    typed_body c.args.table.now c.view_of.new.table c.requires.start.formed c.view_of.ensures.extends (scoped c.args.texts.now c.args.declared.now) (lens_of c.args.body.now)
    c.args.types.0 c.args.types.1 c.requires.view c.in_ok-found.found c.in_ok-found.ensures.view (c.if-not-same.ensures.0 refl)
