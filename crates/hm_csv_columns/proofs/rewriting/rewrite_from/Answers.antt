use Rattle.std.proofs.Common.{◌≡◌, ◌<◌, ◌∙◌, sym, ap, subst, length, take}
use Rattle.csv.specs.Records.{Row, fields_of, field_count}
use Rattle.hm_csv_columns.proofs.Rows.{field_more, cut_whole}
use Rattle.hm_csv_columns.proofs.rewriting.rewrite_from.Goals as goal

pub loop-place-init : goal.loop-place-init
loop-place-init c =
    let row = c.args.row.now in
    let same : c.in_ok-new.new ≡ row = c.in_ok-new.ensures.cases in
    let inside = subst (λ (r : Row). c.args.from < field_count r) (sym same) (cut_whole row c.args.from c.requires.inside) in
    (c.truncate.ensures.fields ∙ ap (λ (r : Row). take c.args.from (fields_of r)) same ∙ sym c.requires.before, c.truncate.ensures.partial.0 inside)

pub loop-place-preserved : goal.loop-place-preserved
loop-place-preserved c =
    let lt : c.loop-place.place < length (fields_of c.args.row.now) = rw (sym c.len-place-end.ensures) c.loop-place-test.true in (
      field_more c.args.table.now.columns.items c.args.card.now (fields_of c.args.row.now) c.loop-place.place _ c.field.result.now (fields_of c.loop-place.new)
          (fields_of c.push_for.new.new) lt c.loop-place.invariant.0 (c.column_at.ensures ∙ c.requires.signs.1 c.loop-place.place lt) c.field.ensures.field
          c.in_ok-push_for.ensures.pushed,
      c.in_ok-push_for.ensures.whole,
    )
