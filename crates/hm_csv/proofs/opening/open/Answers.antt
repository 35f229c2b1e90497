use Rattle.std.proofs.Common.{List, ◌≡◌, ◌<◌, ◌∙◌, sym, subst, ap, Some, slice_get, ℕ}
use Rattle.std.specs.Prelude.{All}
use Rattle.csv.specs.Records.{Row, fields_of}
use Rattle.hm_tree.specs.Names.{Name}
use Rattle.hm_schema.specs.Values.{options_value}
use Rattle.hm_csv_records.specs.Rows.{IsHeader}
use Rattle.hm_csv_columns.specs.declared.column.Column.{Column}
use Rattle.hm_csv.specs.Tables.{columns_of}
use Rattle.hm_csv.proofs.ColumnFacts.{within}
use Rattle.hm_csv.proofs.Openings.{header_good, header_text}
use Rattle.hm_csv.proofs.opening.open.Goals as goal

pub columns_in-requires-clause-text : goal.columns_in-requires-clause-text
columns_in-requires-clause-text c =
    let rows = c.in_ok-mark.field-0.rows.items in
    let first : Some c.in-Some.header.now ≡ slice_get rows 0 = c.in-Some.ensures.value ∙ ap (λ (rs : List Row). slice_get rs 0) c.deref-3.ensures.value in
    header_text c.in-Some.header.now rows first c.in_ok-mark.ensures.text

pub signs-requires : goal.signs-requires
signs-requires c =
    let o = options_value c.args.options.now in
    let header = fields_of c.in-Some.header.now in
    let rows = c.in_ok-mark.field-0.rows.items in
    let first : Some c.in-Some.header.now ≡ slice_get rows 0 = c.in-Some.ensures.value ∙ ap (λ (rs : List Row). slice_get rs 0) c.deref-3.ensures.value in
    let good = header_good c.in-Some.header.now _ rows first c.in_ok-mark.ensures.sheet.rows.good in
    let named = c.deref-2.ensures.value ∙ c.in_ok-names.ensures in
    let all = within o header (subst (λ (ns : List Name). IsHeader ns header) named good) in
    let cut = subst (λ (n : ℕ). All (λ (k : Column). k.place < n) (columns_of o header)) (sym c.len.ensures) all in
    subst (All (λ (k : Column). k.place < c.len.result)) (sym (c.deref-5.ensures.value ∙ c.in_ok-key.ensures.columns)) cut
