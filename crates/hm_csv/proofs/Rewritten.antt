-- What is written for an opened file is what the format writes.
use Rattle.std.proofs.Common.{◌≡◌, ◌≢◌, ℕ, zero, suc, ◌<◌, T, List, [], ◌∷◌, length, get_or, map, drop, Option, Some, None, Result, Ok, Err, refl, sym, ap, ◌∙◌, subst, arith}
use Rattle.std.specs.Prelude.{All, Vec, IsErrAnd}
use Rattle.std.specs.declared.alloc.Global.{Global}
use Rattle.std.specs.FinMap.{is_sorted}
use Rattle.std.proofs.lemmas.List.{get_or-map}
use Rattle.csv.specs.Records.{Row, fields_of}
use Rattle.hm_tree.specs.Names.{Name, name_cmp}
use Rattle.hm_tree.specs.Nodes.{Tree, edges}
use Rattle.hm_schema.specs.Values.{OptionsValue, SchemaValue}
use Rattle.hm_book_items.specs.Items.{IsRewritten}
use Rattle.hm_book_items.specs.ItemTrees.{AreLists, HasLists}
use Rattle.hm_book_items.proofs.Laws.{lists_once, are_lists}
use Rattle.hm_csv_records.specs.Rows.{Fields}
use Rattle.hm_csv_records.specs.Written.{written}
use Rattle.hm_book_cards.specs.Books as books
use Rattle.hm_book_cards.proofs.Laws.{book_member}
use Rattle.hm_csv_columns.specs.Records.{AreColumns, AreSigns, rewritten, blank}
use Rattle.hm_tree.specs.Cleaned.{cleaned}
use Rattle.hm_format.specs.declared.fault.FormatFault.{FormatFault}
use Rattle.hm_format.specs.declared.fault.FormatFault.TheVariants.{BadOption, NotUtf8, BadItem, NoKey, TooDeep, Outside, Memory}
use Rattle.hm_format.specs.Options.{AreSound}
use Rattle.hm_format.specs.Formats.{HasSchema, depth_over}
use Rattle.hm_schema.specs.Membership.{IsMemberTree}
use Rattle.hm_format.specs.Answers.{Writes}
use Rattle.hm_csv.specs.declared.opening.Opened.{Opened}
use Rattle.hm_csv.specs.Options.{shown_of, column_names}
use Rattle.hm_csv.specs.Tables.{IsTable, key_place, columns_of}
use Rattle.hm_csv.specs.Files.{CsvReads}
use Rattle.hm_csv.specs.Opened.{IsOpened, Hinders}
use Rattle.hm_csv.specs.Writing.{csv, Slots, keyed, base, row_for, AreNewRows, CsvWrites, stays, anew}
use Rattle.hm_csv.specs.Rewriting.{Lists, header_in, others_in, IsEven, keyed_in, base_in, row_in, AreRowsFor, IsAnew}
use Rattle.hm_csv.proofs.ShownNames.{shown_are}
use Rattle.hm_csv.proofs.ReadOnce.{no_stop, no_bad}
use Rattle.hm_csv.proofs.FileLaws.{decides_stays, decides_anew}
use Rattle.hm_csv.proofs.Laws.{found, member_of}

-- ---- bytes that are read are opened, but for want of memory

pub no_fault : (o : OptionsValue) (before : List ℕ) (old : Tree) → CsvReads o before (Ok old) → (over : Option ℕ) (writes : List ℕ → Type 0)
    → (result : Result (Vec ℕ Global) FormatFault) (f : FormatFault) → IsErrAnd result (λ e. e ≡ f) → Hinders (column_names o) before f → Writes over writes result
no_fault o before old read over writes (Ok bytes) f e h = absurd e
no_fault o before old read over writes (Err g) f e h = subst (λ f. Writes over writes (Err f)) (sym e) (none f h)
  where
    none : (f : FormatFault) → Hinders (column_names o) before f → Writes over writes (Err f)
    none (NotUtf8 at) h = absurd (no_stop o before at read.0.table h)
    none (BadItem n) h = absurd (no_bad o before n read.0.table h)
    none Memory h = tt
    none (BadOption key) h = absurd h
    none (NoKey n) h = absurd h
    none (TooDeep d) h = absurd h
    none (Outside path) h = absurd h

-- ---- an opened file

module _ (o : OptionsValue) (s : SchemaValue) (sound : AreSound o) (has : HasSchema csv o s) (before : List ℕ) (w : Opened) (is : IsOpened o before w) where
  abbrev table : IsTable o before
  table = record { mark = w.mark; header = is.header; others = is.others; sheet = is.sheet }

  header_same : header_in w ≡ is.header
  header_same = ap (λ (rows : List Fields). get_or rows 0 []) is.rows_are

  others_same : others_in w ≡ is.others
  others_same = ap (drop 1) is.rows_are

  columns : AreColumns (columns_of o is.header) (key_place o is.header) (length is.header)
  columns = found o s sound has is.header is.sheet.rows.good.0

  row_long : (rows : List Row) (header : Fields) (others : List Fields) → map fields_of rows ≡ header ∷ others → All (λ row. length row ≡ length header) others
      → All (λ row. length (fields_of row) ≡ length header) rows
  row_long [] header others e long = let bad : ⊥ = cc in absurd bad
  row_long (row ∷ rows) header others e long = λ i d lt. ap length (sym (get_or-map fields_of (row ∷ rows) i d [] lt) ∙ ap (λ (l : List Fields). get_or l i []) e) ∙ each i (below i lt)
    where
      so_many : (rows : List Row) → length (map fields_of rows) ≡ length rows
      so_many [] = refl
      so_many (row ∷ rows) = ap suc (so_many rows)

      below : (i : ℕ) → i < length (row ∷ rows) → i < length (header ∷ others)
      below i lt = let n = ap length e in let m = so_many (row ∷ rows) in omega (arith, lt, n, m)

      each : (i : ℕ) → i < length (header ∷ others) → length (get_or (header ∷ others) i []) ≡ length header
      each zero lt = refl
      each (suc i) lt = long i [] (omega (arith, lt))

  pub even : IsEven w
  even = record {
    some = some w.rows.items is.rows_are;
    long = subst (λ (h : Fields). All (λ row. length (fields_of row) ≡ length h) w.rows.items) (sym header_same)
        (row_long w.rows.items is.header is.others is.rows_are is.sheet.rows.good.1);
    text = is.text;
    signs = subst (λ (h : Fields). AreSigns w.table.columns.items w.table.signs.items (length h)) (sym header_same) is.signs;
    key = let lt = columns.key_within in let k = is.key_is in let n = ap length header_same in omega (arith, lt, k, n);
  }
    where
      some : (rows : List Row) → map fields_of rows ≡ is.header ∷ is.others → 0 < length rows
      some [] e = let bad : ⊥ = cc in absurd bad
      some (row ∷ rows) e = omega arith

  base_same : (key : Name) (old : Option Fields) → base_in w key old ≡ base o is.header key old
  base_same key None = λ i. blank (is.key_is i) key (length (header_same i))
  base_same key (Some row) = refl

  row_same : (x : Name × Option Fields × Tree) → row_in w x ≡ row_for o is.header x
  row_same x = λ i. rewritten (is.columns_are i) x.2 (base_same x.0 x.1 i)

  rows_same : (slots : Slots) → map (row_in w) slots ≡ map (row_for o is.header) slots
  rows_same [] = refl
  rows_same (x ∷ slots) = λ i. row_same x i ∷ rows_same slots i

  keyed_same : keyed_in w ≡ keyed o is.header is.others
  keyed_same = λ i. map (λ (row : Fields). (cleaned (get_or row (is.key_is i) []), row)) (others_same i)

  new_rows : (t : Tree) (lists : Lists) (rows : List Fields) → AreLists (edges t) lists → AreRowsFor w lists rows → AreNewRows o is.header is.others t rows
  new_rows t lists rows below are = record {
    lists = lists;
    below = below;
    slots = are.slots;
    rewritten_is = subst (λ olds. IsRewritten name_cmp olds lists are.slots) keyed_same are.rewritten_is;
    rows_are = are.rows_are ∙ rows_same are.slots;
  }

  module _ (old t : Tree) (read : CsvReads o before (Ok old)) (member : IsMemberTree s t) (over : depth_over t ≡ None) where
    book : books.IsBook (shown_of o) t
    book = book_member (shown_of o) (shown_are o sound) t (member_of o s t has member)

    pub has_lists : HasLists t
    has_lists = are_lists t book.lists book.below

    pub lists_rise : (lists : Lists) → AreLists (edges t) lists → T (is_sorted name_cmp lists)
    lists_rise lists below = subst (λ (ls : Lists). T (is_sorted name_cmp ls)) (lists_once (edges t) book.lists lists book.below below) book.tree_is.sorted

    module _ (lists : Lists) (below : AreLists (edges t) lists) where
      pub written_text : (text : Vec ℕ Global) → IsAnew w lists (Some text) → CsvWrites o t before text.items
      written_text text h =
          let new = new_rows t lists h.rows below h.are in
          let apart : h.rows ≢ is.others = λ e. h.written_is.0 (e ∙ sym others_same) in
          anew (decides_anew o (found o s sound has) (shown_are o sound) before old t read (member_of o s t has member) over table h.rows new apart)
          (record { table = table; rows = h.rows; new = new; text = h.written_is.1 ∙ (λ i. written w.mark (header_same i ∷ h.rows)) })

      pub kept_bytes : (bytes : List ℕ) → bytes ≡ before → IsAnew w lists None → CsvWrites o t before bytes
      kept_bytes bytes e h =
          subst (CsvWrites o t before) (sym e)
          (stays (decides_stays o (found o s sound has) (shown_are o sound) before old t read (member_of o s t has member) over table h.rows
          (new_rows t lists h.rows below h.are) (h.written_is ∙ others_same)))
