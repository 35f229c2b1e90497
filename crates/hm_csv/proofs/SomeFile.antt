-- All bytes are read as a book, or refused for a fault; and of each book that is to be written there is a text.
use Rattle.std.proofs.Common.{ℕ, ◌+◌, inl, inr, Bool, T, List, [], ◌∷◌, ◌++◌, length, get_or, map, refl, sym, subst}
use Rattle.std.specs.Prelude.{All, IsUtf8, Result, Ok, Err}
use Rattle.std.proofs.lemmas.Bool.{cases_lt}
use Rattle.std.proofs.lemmas.Str.{IsUtf8-nil}
use Rattle.std.proofs.Math.ListN.{get_or-eq_default}
use Rattle.std.proofs.lemmas.List.Elements.{All-head, All-tail}
use Rattle.hm_existence.specs.Existence.{IsThere}
use Rattle.hm_existence.proofs.Existence.{from_one, from_there, by_cases, all_or_first}
use Rattle.hm_tree.specs.Names.{name_cmp}
use Rattle.hm_tree.specs.Nodes.{Tree, depth, are_texts, both}
use Rattle.hm_tree.proofs.CleanText.{cleaned_utf8}
use Rattle.hm_tree.proofs.Texts.{text_test}
use Rattle.hm_schema.specs.Values.{OptionsValue}
use Rattle.hm_book_items.specs.Items.{kept, added}
use Rattle.hm_book_items.proofs.Contents.{some_tree}
use Rattle.hm_book_cards.specs.Books as books
use Rattle.hm_csv_records.specs.Rows.{Fields}
use Rattle.hm_csv_records.specs.Reads.{Sheet, IsSheet, ReadsRecords}
use Rattle.hm_csv_records.specs.Written.{written}
use Rattle.hm_csv_records.specs.declared.fault.RecordsFault.{RecordsFault}
use Rattle.hm_csv_records.specs.declared.fault.RecordsFault.TheVariants as records
use Rattle.hm_csv_records.proofs.Laws.{records_text, records_there}
use Rattle.hm_format.specs.declared.fault.FormatFault.{FormatFault}
use Rattle.hm_format.specs.declared.fault.FormatFault.TheVariants.{NotUtf8, BadItem, NoKey, TooDeep}
use Rattle.hm_format.specs.Formats.{deepest}
use Rattle.hm_csv.specs.Options.{shown_of, column_names}
use Rattle.hm_csv.specs.Tables.{IsTable, HasKey, key_place, key_of, items_of}
use Rattle.hm_csv.specs.Files.{IsBook, CsvReads}
use Rattle.hm_csv.specs.Writing.{keyed, row_for, IsWrittenAnew, CsvWrites, stays, anew}

-- ---- reading

text_at : (row : Fields) (place : ℕ) → All IsUtf8 row → IsUtf8 (get_or row place [])
text_at row place texts = elim (cases_lt place (length row)) [
  | inl lt ↦ texts place [] lt
  | inr past ↦ subst IsUtf8 (sym (get_or-eq_default row [] past)) IsUtf8-nil
]

keys_text : (o : OptionsValue) (header : Fields) (rows : List Fields) → All (All IsUtf8) rows → T (are_texts (items_of o header rows))
keys_text o header [] texts = tt
keys_text o header (row ∷ rows) texts =
    both _ _ (text_test (key_of o header row) (cleaned_utf8 _ (text_at row (key_place o header) (All-head (All IsUtf8) row rows texts))))
    (keys_text o header rows (All-tail (All IsUtf8) row rows texts))

module _ (o : OptionsValue) (bytes : List ℕ) where
  abbrev Answers : Result Tree FormatFault → Type 0
  Answers = CsvReads o bytes

  keyed_there : (table : IsTable o bytes) → All (HasKey o table.header) table.others → IsThere Answers
  keyed_there table has =
      let rows : List Fields = table.header ∷ table.others in
      let texts = records_text (column_names o) bytes (record { mark = table.mark; rows = rows }) table.sheet in
      let made = some_tree (items_of o table.header table.others)
      (keys_text o table.header table.others (All-tail (All IsUtf8) table.header table.others texts)) in
      let book : IsBook o bytes made.0 = record { table = table; keyed = has; tree = made.1 } in
      elim (cases_lt deepest (depth made.0)) [
        | inl over ↦ from_one Answers (Err (TooDeep (depth made.0))) (record { tree = made.0; book = book; depth_is = refl; over = over })
        | inr within ↦ from_one Answers (Ok made.0) (book, within)
      ]

  table_there : IsTable o bytes → IsThere Answers
  table_there table =
      all_or_first Answers (HasKey o table.header) table.others (keyed_there table)
      (λ before row after are has keyless. from_one Answers (Err (NoKey (length before + 2))) (record {
        table = table;
        before = before;
        row = row;
        after = after;
        are = are;
        keyed = has;
        keyless = keyless;
        place = refl;
      }))

  sheet_there : (mark : Bool) (rows : List Fields) → IsSheet (column_names o) bytes (record { mark = mark; rows = rows }) → IsThere Answers
  sheet_there mark [] sheet = absurd (sheet.rows.some refl)
  sheet_there mark (header ∷ others) sheet = table_there (record { mark = mark; header = header; others = others; sheet = sheet })

  rows_there : (r : Result Sheet RecordsFault) → ReadsRecords (column_names o) bytes r → IsThere Answers
  rows_there (Ok sheet) is = sheet_there sheet.mark sheet.rows is
  rows_there (Err (records.NotUtf8 at)) fault = from_one Answers (Err (NotUtf8 at)) fault
  rows_there (Err (records.BadItem number)) fault = from_one Answers (Err (BadItem number)) fault
  rows_there (Err records.Memory) fault = absurd fault

  pub some_read : IsThere Answers
  some_read = from_there (ReadsRecords (column_names o) bytes) Answers (records_there (column_names o) bytes) rows_there

-- ---- writing

module _ (o : OptionsValue) (before : List ℕ) (t : Tree) (table : IsTable o before) (book : books.IsBook (shown_of o) t) where
  some_anew : (after : List ℕ) × IsWrittenAnew o t before after
  some_anew =
      let old = keyed o table.header table.others in
      let slots = kept name_cmp book.lists [] old ++ added name_cmp old book.lists in
      let rows = map (row_for o table.header) slots in (
        written table.mark (table.header ∷ rows),
        record {
          table = table;
          rows = rows;
          new = record { lists = book.lists; below = book.below; slots = slots; rewritten_is = refl; rows_are = refl };
          text = refl;
        },
      )

  pub some_written : IsThere (CsvWrites o t before)
  some_written =
      let new = some_anew in
      by_cases (CsvWrites o t before) (CsvReads o before (Ok t)) (λ read. from_one (CsvWrites o t before) before (stays read))
      (λ other. from_one (CsvWrites o t before) new.0 (anew other new.1))
