use Rattle.std.proofs.Common.{rules, ◌≡◌, ◌<◌, length, slice_get, None, Some, refl, sym, ◌∙◌}
use Rattle.std.proofs.lemmas.Option.{slice_get_read}
use Rattle.hm_terms.specs.Programs.{lens_of}
use Rattle.hm_types_rules.specs.TextNames.{text_names}
use Rattle.hm_types_terms.specs.Courses.{classes_of}
use Rattle.hm_types_terms.specs.TextTypes.{first_unknown}
use Rattle.hm_types_terms.proofs.TextTypes.{body_found, body_passed}
use Rattle.hm_types.proofs.unknown.unknown_in.Goals as goal

pub returns-in-Some : goal.returns-in-Some
returns-in-Some c =
    let ds = c.deref-definition-items.result.now in
    let lt : c.loop-definition.definition-index < length ds = search rules in
    let at : slice_get ds c.loop-definition.definition-index ≡ Some c.definition-item.result =
    slice_get_read ds _ c.loop-definition.definition-index c.definition-item.result refl lt c.definition-item.is in
    sym (body_found (classes_of c.args.texts.now) ds (text_names (lens_of c.args.program.now.main)) c.loop-definition.definition-index c.definition-item.result at
    c.in-Some.name.now (sym c.in-Some.ensures)) ∙ c.loop-definition.invariant

pub loop-definition-preserved : goal.loop-definition-preserved
loop-definition-preserved c =
    let ds = c.deref-definition-items.result.now in
    let lt : c.loop-definition.definition-index < length ds = search rules in
    let at : slice_get ds c.loop-definition.definition-index ≡ Some c.definition-item.result =
    slice_get_read ds _ c.loop-definition.definition-index c.definition-item.result refl lt c.definition-item.is in
    let none : first_unknown (classes_of c.args.texts.now) (text_names (lens_of c.definition-item.result.body)) ≡ None = search rules in
    sym (body_passed (classes_of c.args.texts.now) ds (text_names (lens_of c.args.program.now.main)) c.loop-definition.definition-index c.definition-item.result at none)
    ∙ c.loop-definition.invariant
