use Rattle.std.proofs.Common.{◌<◌, ◌≤◌, ◌∙◌, sym, ap, length, rules}
use Rattle.std.proofs.lemmas.List.{take_all}
use Rattle.csv.specs.Records.{fields_of}
use Rattle.hm_csv_columns.specs.Records.{rewritten}
use Rattle.hm_csv_columns.proofs.Rows.{stays_more, stays_here}
use Rattle.hm_csv_columns.proofs.rewriting.rewrite.Goals as goal

pub loop-place-preserved : goal.loop-place-preserved
loop-place-preserved c =
    let lt : c.loop-place.place < length (fields_of c.args.row.now) = rw (sym c.len-place-end.ensures) c.loop-place-test.true in
    stays_more c.args.table.now.columns.items c.args.card.now (fields_of c.args.row.now) c.loop-place.place _ c.field.result.now lt c.loop-place.invariant
    (c.column_at.ensures ∙ c.requires.signs.1 c.loop-place.place lt) c.field.ensures.field
    (stays_here c.column_at.result c.args.card.now c.field.result.now _ c.in_ok-stays.ensures c.if-not-branch.false)

pub returns : goal.returns
returns c =
    let end : length (fields_of c.args.row.now) ≤ c.loop-place.place = search rules in
    let all = take_all c.loop-place.place (fields_of c.args.row.now) end in
    ap (rewritten c.args.table.now.columns.items c.args.card.now) (sym all) ∙ c.loop-place.invariant ∙ all
