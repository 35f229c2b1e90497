-- What is made of an opened file is what its bytes are read as.
use Rattle.std.proofs.Common.{◌≡◌, ℕ, suc, ◌<◌, T, List, [], ◌∷◌, length, get_or, map, drop, None, Result, Ok, Err, sym, ap, ◌∙◌, subst, arith}
use Rattle.std.specs.Prelude.{All, IsErrAnd, IsUtf8}
use Rattle.std.proofs.lemmas.List.{get_or-map, length-map}
use Rattle.csv.specs.Records.{Row, fields_of}
use Rattle.hm_tree.specs.Names.{Name}
use Rattle.hm_tree.specs.Nodes.{Tree, are_edges}
use Rattle.hm_schema.specs.Values.{OptionsValue}
use Rattle.hm_book_items.specs.ItemTrees.{IsItemTree}
use Rattle.hm_csv_records.specs.Rows.{Fields}
use Rattle.hm_csv_columns.specs.declared.column.Column.{Column}
use Rattle.hm_csv_columns.specs.Records.{AreColumns, shown_by}
use Rattle.hm_format.specs.declared.fault.FormatFault.{FormatFault}
use Rattle.hm_format.specs.declared.fault.FormatFault.TheVariants.{BadOption, NotUtf8, BadItem, NoKey, TooDeep, Outside, Memory}
use Rattle.hm_format.specs.Answers.{Reads}
use Rattle.hm_format.specs.Options.{AreSound, bad_key}
use Rattle.hm_csv.specs.declared.opening.Opened.{Opened}
use Rattle.hm_csv.specs.Options.{csv_rules}
use Rattle.hm_csv.specs.Tables.{key_place, columns_of, items_of, IsTable}
use Rattle.hm_csv.specs.Files.{CsvReads}
use Rattle.hm_csv.specs.Opened.{IsOpened}
use Rattle.hm_csv.specs.Reading.{Suits, item_by, IsKeyed, IsKeyFault, GivesTree}
use Rattle.hm_csv.proofs.ColumnFacts.{columns_are}

-- a fault that is passed on
pub told : (r : Result Tree FormatFault) (fault : FormatFault) (R : Result Tree FormatFault → Type 0) → IsErrAnd r (λ e. e ≡ fault) → Reads R (Err fault) → Reads R r
told (Ok tree) fault R e h = absurd e
told (Err f) fault R e h = subst (λ (f : FormatFault). Reads R (Err f)) (sym e) h

-- ---- the records behind the header

behind : (rows : List Row) (header : Fields) (others : List Fields) → map fields_of rows ≡ header ∷ others → map fields_of (drop 1 rows) ≡ others
behind [] header others e = let no : ⊥ = cc in absurd no
behind (row ∷ rows) header others e = cc

all_behind : (P : Row → Type 0) (rows : List Row) → All P rows → All P (drop 1 rows)
all_behind P [] all = all
all_behind P (row ∷ rows) all = λ i d lt. all (suc i) d (omega (arith, lt))

module _ (o : OptionsValue) (bytes : List ℕ) (w : Opened) (is : IsOpened o bytes w) where
  abbrev rest : List Row
  rest = drop 1 w.rows.items

  others_are : map fields_of rest ≡ is.others
  others_are = behind w.rows.items is.header is.others is.rows_are

  abbrev table : IsTable o bytes
  table = record { mark = w.mark; header = is.header; others = is.others; sheet = is.sheet }

  module _ (sound : AreSound o) (none : bad_key csv_rules o ≡ None) where
    columns : AreColumns (columns_of o is.header) (key_place o is.header) (length is.header)
    columns = columns_are o is.header sound none is.sheet.rows.good.0

    pub names_rise : T (are_edges (shown_by w.table.columns.items))
    names_rise = subst (λ cs. T (are_edges (shown_by cs))) (sym is.columns_are) columns.names

    long : (i : ℕ) (row : Row) → i < length rest → length (fields_of (get_or rest i row)) ≡ length is.header
    long i row lt =
        let same = length-map rest fields_of in
        ap length (sym (get_or-map fields_of rest i row (fields_of row) lt))
        ∙ ap (λ (rows : List Fields). length (get_or rows i (fields_of row))) others_are
        ∙ is.sheet.rows.good.1 i (fields_of row) (let others = ap length others_are in omega (arith, lt, same, others))

    pub rows_suit : All (λ row. Suits w.table.columns.items w.key (fields_of row)) rest
    rows_suit i row lt =
        let count = long i row lt in
        let key = columns.key_within in
        record {
          key_within = let at = is.key_is in omega (arith, count, key, at);
          within = subst (λ (n : ℕ). All (λ (c : Column). c.place < n) w.table.columns.items) (sym count)
              (subst (All (λ (c : Column). c.place < length is.header)) (sym is.columns_are) columns.within);
          text = all_behind (λ row. All IsUtf8 (fields_of row)) w.rows.items is.text i row lt;
        }

  pub key_fault : (fault : FormatFault) → IsKeyFault w.key (map fields_of rest) fault → Reads (CsvReads o bytes) (Err fault)
  key_fault (NoKey number) why = record {
    table = table;
    before = why.before;
    row = why.row;
    after = why.after;
    are = sym others_are ∙ why.are;
    keyed = subst (λ key. All (IsKeyed key) why.before) is.key_is why.keyed;
    keyless = subst (λ key. ¬ (IsKeyed key why.row)) is.key_is why.keyless;
    place = why.place;
  }
  key_fault Memory why = tt
  key_fault (BadOption name) why = absurd why
  key_fault (NotUtf8 at) why = absurd why
  key_fault (BadItem number) why = absurd why
  key_fault (TooDeep depth) why = absurd why
  key_fault (Outside path) why = absurd why

  module _ (items : List (Name × Tree)) (are : items ≡ map (item_by w.key w.table.columns.items) (map fields_of rest))
      (keyed : All (IsKeyed w.key) (map fields_of rest)) where
    items_are : items ≡ items_of o is.header is.others
    items_are =
        are ∙ ap (λ (rows : List Fields). map (item_by w.key w.table.columns.items) rows) others_are
        ∙ (λ i. map (item_by (is.key_is i) (is.columns_are i)) is.others)

    all_keyed : All (IsKeyed (key_place o is.header)) is.others
    all_keyed = subst (All (IsKeyed (key_place o is.header))) others_are (subst (λ key. All (IsKeyed key) (map fields_of rest)) is.key_is keyed)

    pub book_read : (r : Result Tree FormatFault) → GivesTree items r → Reads (CsvReads o bytes) r
    book_read (Ok tree) h =
        (record { table = table; keyed = all_keyed; tree = subst (λ (es : List (Name × Tree)). IsItemTree es tree) items_are h.is }, h.within)
    book_read (Err (TooDeep depth)) h = record {
      tree = h.tree;
      book = record { table = table; keyed = all_keyed; tree = subst (λ (es : List (Name × Tree)). IsItemTree es h.tree) items_are h.is };
      depth_is = h.depth_is;
      over = h.over;
    }
    book_read (Err Memory) h = tt
    book_read (Err (BadOption name)) h = absurd h
    book_read (Err (NotUtf8 at)) h = absurd h
    book_read (Err (BadItem number)) h = absurd h
    book_read (Err (NoKey number)) h = absurd h
    book_read (Err (Outside path)) h = absurd h
