use Rattle.std.proofs.Common.{◌≡◌, map, ap, subst, ◌∙◌}
use Rattle.std.proofs.lemmas.Result.{err_from_is_err_and}
use Rattle.hm_terms.specs.Programs.{program_value}
use Rattle.hm_types_forms.specs.Forms.{form}
use Rattle.hm_types_rules.specs.Typing.{Classes}
use Rattle.hm_types_rules.specs.Programs.{classes_in, IsTyped}
use Rattle.hm_types_terms.specs.Courses.{classes_of}
use Rattle.hm_types.specs.Checks.{IsFault}
use Rattle.hm_types_terms.proofs.TextTypes.{classes_same}
use Rattle.hm_types.proofs.checking.check.Goals as goal

pub returns-clause-typed : goal.returns-clause-typed
returns-clause-typed g c =
    let ms = map (λ b. (goal.TextLens-dyn g (b.vtable, b.value)).meaning b.value) c.args.texts.now in
    let same : classes_of c.deref.result.now ≡ classes_in ms =
    ap classes_of (c.deref.ensures.value ∙ c.in_ok-types.ensures.types) ∙ classes_same ms in
    let a = c.in_ok-checked.ensures.typed in
    record {
      program = a.program;
      source = a.source;
      shown = a.shown;
      typed = subst (λ (t : Classes). IsTyped t (program_value c.args.program) (form c.args.source.now.nodes c.args.source.now.root) a.shown) same a.typed;
      numbered = a.numbered;
      fits = a.fits ms same c.in_ok-types.ensures.lawful;
    }

pub returns-in_err-checked-clause-fault : goal.returns-in_err-checked-clause-fault
returns-in_err-checked-clause-fault g c =
    let ms = map (λ b. (goal.TextLens-dyn g (b.vtable, b.value)).meaning b.value) c.args.texts.now in
    let same : classes_of c.deref.result.now ≡ classes_in ms =
    ap classes_of (c.deref.ensures.value ∙ c.in_ok-types.ensures.types) ∙ classes_same ms in
    let p = err_from_is_err_and c.from_residual-in_err-checked.result c.from_residual-in_err-checked.ensures.1 in
    rw (p.1, p.2)
    (subst (λ t. IsFault t (program_value c.args.program) c.args.source.now c.in_err-checked.field-0.0) same c.in_err-checked.ensures.fault)
