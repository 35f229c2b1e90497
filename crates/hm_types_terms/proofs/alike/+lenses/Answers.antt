use Rattle.std.proofs.Common.{rules, ◌≡◌, ◌<◌, ◌++◌, length, map, slice_get, Some, refl, sym, ap, ◌∙◌}
use Rattle.std.proofs.lemmas.Option.{slice_get_read}
use Rattle.hm_terms.specs.Lenses.{among}
use Rattle.hm_terms.specs.Programs.{lens_of, lenses_of}
use Rattle.hm_terms.proofs.Rows.{each_items}
use Rattle.hm_types_terms.specs.Parts.{parts_inside}
use Rattle.hm_types_terms.proofs.PartLists.{lenses_next}
use Rattle.hm_types_terms.proofs.AlikeLists.{lens_pushed}
use Rattle.hm_types_terms.proofs.Falling.{rows_fall, row_parts_fall}
use Rattle.hm_types_terms.proofs.alike.+lenses.Goals as goal

pub push_lenses-returns : goal.push_lenses-returns
push_lenses-returns t c = lens_pushed c.args.all.now.items c.push.new.self.items c.push_inside.new.all.items c.args.term c.in_ok-push.ensures.items c.in_ok-hash.ensures

pub push_inside-returns-in_ok-push_rows-in-Each : goal.push_inside-returns-in_ok-push_rows-in-Each
push_inside-returns-in_ok-push_rows-in-Each t c =
    let is : lens_of c.args.term.now ≡ among (lenses_of c.deref-in-Each.result.now) =
    ap lens_of c.in-Each.is ∙ each_items c.in-Each.rows ∙ ap (λ rows. among (lenses_of rows)) (sym c.deref-in-Each.ensures.value) in
    c.in_ok-push_rows-in-Each.ensures ∙ ap (λ l. map (λ t. lens_of t.now) c.args.all.now.items ++ parts_inside l) (sym is)

pub push_inside-push_rows-requires : goal.push_inside-push_rows-requires
push_inside-push_rows-requires t c =
    let is : lens_of c.args.term.now ≡ among (lenses_of c.deref-in-Each.result.now) =
    ap lens_of c.in-Each.is ∙ each_items c.in-Each.rows ∙ ap (λ rows. among (lenses_of rows)) (sym c.deref-in-Each.ensures.value) in
    (rows_fall (lens_of c.args.term.now) (lenses_of c.deref-in-Each.result.now) t is c.decreases, tt)

pub push_rows-push_lenses-requires : goal.push_rows-push_lenses-requires
push_rows-push_lenses-requires t c =
    let lt : c.loop-row.row-index < length c.args.rows.now = search rules in
    let at : slice_get c.args.rows.now c.loop-row.row-index ≡ Some c.row-item.result =
    slice_get_read c.args.rows.now _ c.loop-row.row-index c.row-item.result refl lt c.row-item.is in
    (row_parts_fall c.args.rows.now c.loop-row.row-index c.row-item.result t at c.decreases, tt)

pub push_rows-loop-row-preserved : goal.push_rows-loop-row-preserved
push_rows-loop-row-preserved t c =
    let lt : c.loop-row.row-index < length c.args.rows.now = search rules in
    let at : slice_get c.args.rows.now c.loop-row.row-index ≡ Some c.row-item.result =
    slice_get_read c.args.rows.now _ c.loop-row.row-index c.row-item.result refl lt c.row-item.is in
    lenses_next c.args.rows.now c.loop-row.row-index c.row-item.result at (map (λ t. lens_of t.now) c.args.all.now.items)
    (map (λ t. lens_of t.now) c.loop-row.all.items) (map (λ t. lens_of t.now) c.push_lenses.new.all.items) c.loop-row.invariant c.in_ok-push_lenses.ensures
