use Rattle.std.proofs.Common.{List, T, map, drop, sym, subst, ◌∙◌}
use Rattle.std.specs.Prelude.{All}
use Rattle.csv.specs.Records.{Row, fields_of}
use Rattle.hm_tree.specs.Nodes.{are_edges}
use Rattle.hm_schema.specs.Values.{options_value}
use Rattle.hm_csv_columns.specs.declared.column.Column.{Column}
use Rattle.hm_csv_columns.specs.Records.{shown_by}
use Rattle.hm_csv.specs.Files.{CsvReads}
use Rattle.hm_csv.specs.Reading.{Suits, item_by, IsKeyed, IsKeyFault}
use Rattle.hm_csv.proofs.ShownNames.{none_bad}
use Rattle.hm_csv.proofs.Books.{names_rise, rows_suit, told, key_fault, book_read}
use Rattle.hm_csv.proofs.reading.read_book.Goals as goal

pub items-requires-clause-names : goal.items-requires-clause-names
items-requires-clause-names c =
    let o = options_value c.args.options.now in
    subst (λ (cs : List Column). T (are_edges (shown_by cs))) (sym c.deref.ensures.value)
    (names_rise o c.args.bytes.now c.in_ok-opened.opened c.in_ok-opened.ensures.opened c.requires.sound (none_bad o c.requires.schema c.requires.has))

pub items-requires-clause-rows : goal.items-requires-clause-rows
items-requires-clause-rows c =
    let o = options_value c.args.options.now in
    let suit = rows_suit o c.args.bytes.now c.in_ok-opened.opened c.in_ok-opened.ensures.opened c.requires.sound (none_bad o c.requires.schema c.requires.has) in
    subst (λ (rows : List Row). All (λ row. Suits c.deref.result.now c.in_ok-opened.opened.key (fields_of row)) rows) (sym c.others.ensures)
    (subst (λ (cs : List Column). All (λ row. Suits cs c.in_ok-opened.opened.key (fields_of row)) (drop 1 c.in_ok-opened.opened.rows.items)) (sym c.deref.ensures.value) suit)

pub returns-in_err-items : goal.returns-in_err-items
returns-in_err-items c =
    let o = options_value c.args.options.now in
    let key = c.in_ok-opened.opened.key in
    let why = subst (λ (rows : List Row). IsKeyFault key (map fields_of rows) c.in_err-items.field-0.0) c.others.ensures c.in_err-items.ensures.keyless in
    told c.from_residual-in_err-items.result c.in_err-items.field-0.0 (CsvReads o c.args.bytes.now) c.from_residual-in_err-items.ensures.1
    (key_fault o c.args.bytes.now c.in_ok-opened.opened c.in_ok-opened.ensures.opened c.in_err-items.field-0.0 why)

pub returns : goal.returns
returns c =
    let o = options_value c.args.options.now in
    let key = c.in_ok-opened.opened.key in
    let are = c.in_ok-items.ensures.items ∙ (λ i. map (item_by key (c.deref.ensures.value i)) (map fields_of (c.others.ensures i))) in
    let keyed = subst (λ (rows : List Row). All (IsKeyed key) (map fields_of rows)) c.others.ensures c.in_ok-items.ensures.keyed in
    book_read o c.args.bytes.now c.in_ok-opened.opened c.in_ok-opened.ensures.opened c.in_ok-items.items.items are keyed c.tree_of.result c.tree_of.ensures
