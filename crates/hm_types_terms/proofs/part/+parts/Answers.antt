use Rattle.std.proofs.Common.{rules, ◌≡◌, ◌<◌, Some, slice_get, refl, ◌-◌, ◌++◌, ◌∷◌, [], length, map, sym, ap, subst, ◌∙◌, arith}
use Rattle.std.proofs.lemmas.Option.{slice_get_read}
use Rattle.hm_terms.specs.Lenses.{among}
use Rattle.hm_terms.specs.Programs.{lens_of, lenses_of}
use Rattle.hm_terms.proofs.Rows.{each_items}
use Rattle.hm_types_rules.specs.Faults.{size_of}
use Rattle.hm_types_rules.specs.Texts.{HasTexts}
use Rattle.hm_types_terms.specs.declared.part.Part.{Part}
use Rattle.hm_types_terms.specs.Parts.{part_of, parts_inside, copies}
use Rattle.hm_types_terms.proofs.PartLists.{new_length, first_read, parts_set, rows_next, texts_next}
use Rattle.hm_types_terms.proofs.Falling.{rows_fall, row_parts_fall}
use Rattle.hm_types_terms.proofs.part.+parts.Goals as goal

pub push_parts-returns-clause-parts : goal.push_parts-returns-clause-parts
push_parts-returns-clause-parts t c =
    let l = lens_of c.args.term.now in
    let p : Part = record { size = 0; copies = c.copies.result } in
    let is : c.push_inside.new.parts.items ≡ (c.args.parts.now.items ++ p ∷ []) ++ map part_of (parts_inside l) =
    c.in_ok-push_inside.ensures.parts ∙ ap (λ xs. xs ++ map part_of (parts_inside l)) c.in_ok-push.ensures.items in
    let place : c.len-place.result ≡ length c.args.parts.now.items = search rules in
    let end : c.len.result ≡ length c.push_inside.new.parts.items = search rules in
    let long = new_length c.args.parts.now.items c.push_inside.new.parts.items p l is in
    let size : c.len.result - c.len-place.result ≡ size_of l = omega (arith, place, end, long) in
    let read = c.index_mut.ensures.value ∙ first_read c.args.parts.now.items c.push_inside.new.parts.items p l is c.len-place.result _ place in
    let copied : c.index_mut.result.now.copies ≡ copies l = ap (λ (p : Part). p.copies) read ∙ c.copies.ensures in
    parts_set c.args.parts.now.items c.push_inside.new.parts.items p l is c.len-place.result
    (record { size = c.len.result - c.len-place.result; copies = c.index_mut.result.now.copies }) place
    (λ t. record { size = size t; copies = copied t })

pub push_inside-returns-in_ok-push_rows-in-Each-clause-parts : goal.push_inside-returns-in_ok-push_rows-in-Each-clause-parts
push_inside-returns-in_ok-push_rows-in-Each-clause-parts t c =
    let is : lens_of c.args.term.now ≡ among (lenses_of c.deref-in-Each.result.now) =
    ap lens_of c.in-Each.is ∙ each_items c.in-Each.rows ∙ ap (λ rows. among (lenses_of rows)) (sym c.deref-in-Each.ensures.value) in
    c.in_ok-push_rows-in-Each.ensures.parts ∙ ap (λ l. c.args.parts.now.items ++ map part_of (parts_inside l)) (sym is)

pub push_inside-returns-in_ok-push_rows-in-Each-clause-texts : goal.push_inside-returns-in_ok-push_rows-in-Each-clause-texts
push_inside-returns-in_ok-push_rows-in-Each-clause-texts t c =
    let is : lens_of c.args.term.now ≡ among (lenses_of c.deref-in-Each.result.now) =
    ap lens_of c.in-Each.is ∙ each_items c.in-Each.rows ∙ ap (λ rows. among (lenses_of rows)) (sym c.deref-in-Each.ensures.value) in
    subst HasTexts (sym is) c.in_ok-push_rows-in-Each.ensures.texts

pub push_inside-push_rows-requires : goal.push_inside-push_rows-requires
push_inside-push_rows-requires t c =
    let is : lens_of c.args.term.now ≡ among (lenses_of c.deref-in-Each.result.now) =
    ap lens_of c.in-Each.is ∙ each_items c.in-Each.rows ∙ ap (λ rows. among (lenses_of rows)) (sym c.deref-in-Each.ensures.value) in
    (rows_fall (lens_of c.args.term.now) (lenses_of c.deref-in-Each.result.now) t is c.decreases, tt)

pub push_rows-push_parts-requires : goal.push_rows-push_parts-requires
push_rows-push_parts-requires t c =
    let lt : c.loop-row.row-index < length c.args.rows.now = search rules in
    let at : slice_get c.args.rows.now c.loop-row.row-index ≡ Some c.row-item.result =
    slice_get_read c.args.rows.now _ c.loop-row.row-index c.row-item.result refl lt c.row-item.is in
    (row_parts_fall c.args.rows.now c.loop-row.row-index c.row-item.result t at c.decreases, tt)

pub push_rows-loop-row-preserved : goal.push_rows-loop-row-preserved
push_rows-loop-row-preserved t c =
    let lt : c.loop-row.row-index < length c.args.rows.now = search rules in
    let at : slice_get c.args.rows.now c.loop-row.row-index ≡ Some c.row-item.result =
    slice_get_read c.args.rows.now _ c.loop-row.row-index c.row-item.result refl lt c.row-item.is in
    record {
      parts = rows_next c.args.rows.now c.loop-row.row-index c.row-item.result at c.args.parts.now.items c.loop-row.parts.items c.push_parts.new.parts.items
          c.loop-row.invariant.parts c.in_ok-push_parts.ensures.parts;
      texts = texts_next c.args.rows.now c.loop-row.row-index c.row-item.result at c.loop-row.invariant.texts c.in_ok-push_parts.ensures.texts;
    }
