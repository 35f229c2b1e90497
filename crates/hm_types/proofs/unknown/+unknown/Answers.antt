use Rattle.std.proofs.Common.{rules, ◌≡◌, ◌<◌, length, slice_get, None, Some, refl, sym, ap, ◌∙◌}
use Rattle.std.proofs.lemmas.Option.{slice_get_read}
use Rattle.hm_terms.specs.Lenses.{among}
use Rattle.hm_terms.specs.Programs.{lens_of, lenses_of}
use Rattle.hm_terms.proofs.Rows.{each_items}
use Rattle.hm_types_rules.specs.TextNames.{text_names}
use Rattle.hm_types_terms.specs.Courses.{classes_of}
use Rattle.hm_types_terms.specs.TextTypes.{first_unknown}
use Rattle.hm_types_terms.proofs.Falling.{rows_fall, row_falls}
use Rattle.hm_types_terms.proofs.TextTypes.{in_first, in_second, row_found, row_passed}
use Rattle.hm_types.proofs.unknown.+unknown.Goals as goal

pub unknown-returns-in-Each : goal.unknown-returns-in-Each
unknown-returns-in-Each t c =
    let is : lens_of c.args.term.now ≡ among (lenses_of c.deref-in-Each.result.now) =
    ap lens_of c.in-Each.is ∙ each_items c.in-Each.rows ∙ ap (λ rows. among (lenses_of rows)) (sym c.deref-in-Each.ensures.value) in
    c.unknown_of_rows.ensures ∙ ap (λ l. first_unknown (classes_of c.args.texts.now) (text_names l)) (sym is)

pub unknown_of_two-returns-in-Some : goal.unknown_of_two-returns-in-Some
unknown_of_two-returns-in-Some t c =
    sym (in_first (classes_of c.args.texts.now) (text_names (lens_of c.args.first.now)) (text_names (lens_of c.args.second.now)) c.in-Some.name.now
    (sym c.in-Some.ensures))

pub unknown_of_two-returns-in-None : goal.unknown_of_two-returns-in-None
unknown_of_two-returns-in-None t c =
    c.unknown-in-None.ensures
    ∙ sym (in_second (classes_of c.args.texts.now) (text_names (lens_of c.args.first.now)) (text_names (lens_of c.args.second.now)) (sym c.in-None.ensures))

pub unknown-unknown_of_rows-requires : goal.unknown-unknown_of_rows-requires
unknown-unknown_of_rows-requires t c =
    let is : lens_of c.args.term.now ≡ among (lenses_of c.deref-in-Each.result.now) =
    ap lens_of c.in-Each.is ∙ each_items c.in-Each.rows ∙ ap (λ rows. among (lenses_of rows)) (sym c.deref-in-Each.ensures.value) in
    (rows_fall (lens_of c.args.term.now) (lenses_of c.deref-in-Each.result.now) t is c.decreases, tt)

pub unknown_of_rows-unknown-requires : goal.unknown_of_rows-unknown-requires
unknown_of_rows-unknown-requires t c =
    let lt : c.loop-row.row-index < length c.args.rows.now = search rules in
    let at : slice_get c.args.rows.now c.loop-row.row-index ≡ Some c.row-item.result =
    slice_get_read c.args.rows.now _ c.loop-row.row-index c.row-item.result refl lt c.row-item.is in
    (row_falls c.args.rows.now c.loop-row.row-index c.row-item.result t at c.decreases, tt)

pub unknown_of_rows-returns-in-Some : goal.unknown_of_rows-returns-in-Some
unknown_of_rows-returns-in-Some t c =
    let lt : c.loop-row.row-index < length c.args.rows.now = search rules in
    let at : slice_get c.args.rows.now c.loop-row.row-index ≡ Some c.row-item.result =
    slice_get_read c.args.rows.now _ c.loop-row.row-index c.row-item.result refl lt c.row-item.is in
    sym (row_found (classes_of c.args.texts.now) c.args.rows.now c.loop-row.row-index c.row-item.result at c.in-Some.name.now (sym c.in-Some.ensures))
    ∙ c.loop-row.invariant

pub unknown_of_rows-loop-row-preserved : goal.unknown_of_rows-loop-row-preserved
unknown_of_rows-loop-row-preserved t c =
    let lt : c.loop-row.row-index < length c.args.rows.now = search rules in
    let at : slice_get c.args.rows.now c.loop-row.row-index ≡ Some c.row-item.result =
    slice_get_read c.args.rows.now _ c.loop-row.row-index c.row-item.result refl lt c.row-item.is in
    let none : first_unknown (classes_of c.args.texts.now) (text_names (lens_of c.row-item.result.1)) ≡ None = search rules in
    sym (row_passed (classes_of c.args.texts.now) c.args.rows.now c.loop-row.row-index c.row-item.result at none) ∙ c.loop-row.invariant
