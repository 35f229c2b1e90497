use Rattle.std.proofs.Common.{◌∙◌, sym, ap, cond, take, Some, None}
use Rattle.std.specs.Option.{option_or}
use Rattle.std.specs.Ordering.{eq_by_cmp}
use Rattle.csv.specs.Records.{fields_of}
use Rattle.hm_tree.specs.Names.{Name, name_cmp}
use Rattle.hm_tree.specs.Cleaned.{cleaned}
use Rattle.hm_csv_records.specs.Rows.{column}
use Rattle.hm_csv_records.proofs.ColumnLaws.{column_more}
use Rattle.hm_csv_records.proofs.header.titles.Goals as goal

pub loop-place-preserved : goal.loop-place-preserved
loop-place-preserved c = λ k in_it.
    c.in_ok-note_wanted.ensures k in_it
    ∙ ap (λ o. option_or o (cond (eq_by_cmp name_cmp k c.in_ok-title.title) (Some c.loop-place.place) None)) (c.loop-place.invariant k in_it)
    ∙ ap (λ (t : Name). option_or (column k (take c.loop-place.place (fields_of c.args.header.now))) (cond (eq_by_cmp name_cmp k t) (Some c.loop-place.place) None)) (c.in_ok-title.ensures ∙ ap cleaned c.field.ensures.field)
    ∙ sym (column_more (fields_of c.args.header.now) c.loop-place.place (rw (sym c.len-place-end.ensures) c.loop-place-test.true) k)
