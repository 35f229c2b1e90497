-- The laws of the format: what is read is a book, and what is written is read as the tree.
use Rattle.std.proofs.Common.{◌≡◌, ◌≢◌, ℕ, suc, T, List, [], ◌∷◌, ◌++◌, length, map, refl, sym, ap, ◌∙◌, subst, arith}
use Rattle.std.specs.Prelude.{All, IsUtf8, Some, None, Ok}
use Rattle.std.proofs.lemmas.List.Elements.{All-nil, All-cons}
use Rattle.std.proofs.lemmas.Str.{IsUtf8-from_is_utf8}
use Rattle.hm_tree.specs.Names.{Name, name_cmp}
use Rattle.hm_tree.specs.Classes.{IsFilled}
use Rattle.hm_tree.specs.Nodes.{Tree, edges, are_edges, edges_head, edges_tail}
use Rattle.hm_tree.specs.NodeLaws.{edges_are}
use Rattle.hm_tree.specs.States.{state}
use Rattle.hm_tree.proofs.Sorted.{name_total, name_one}
use Rattle.hm_schema.specs.Values.{OptionsValue}
use Rattle.hm_schema.specs.Membership.{IsMember}
use Rattle.hm_book_items.specs.Items.{Each, IsTree, IsRewritten, kept, added}
use Rattle.hm_book_items.proofs.Fitting.{AllFit}
use Rattle.hm_book_items.specs.ItemTrees.{AreLists, IsItemTree}
use Rattle.hm_book_items.proofs.Laws.{lists_once}
use Rattle.hm_csv_records.specs.Rows.{Fields, IsHeader, AreGood}
use Rattle.hm_csv_records.specs.Reads.{IsSheet}
use Rattle.hm_csv_records.specs.Written.{written}
use Rattle.hm_csv_records.proofs.Laws.{records_text, records_filled, written_reads}
use Rattle.hm_book_cards.specs.Cards.{Shown, IsCard}
use Rattle.hm_book_cards.specs.Books as books
use Rattle.hm_book_cards.proofs.Laws.{items_book, member_book, book_member}
use Rattle.hm_csv_columns.specs.Records.{AreColumns, card_of}
use Rattle.hm_csv_columns.proofs.Laws.{record_card}
use Rattle.hm_format.specs.Formats.{depth_over}
use Rattle.hm_format.proofs.Limits.{shallow}
use Rattle.hm_csv.specs.Options.{shown_of, column_names}
use Rattle.hm_csv.specs.Tables.{IsTable, key_place, columns_of, HasKey, item_of, items_of}
use Rattle.hm_csv.specs.Files.{IsBook, CsvReads}
use Rattle.hm_csv.specs.Kept.{AreKept}
use Rattle.hm_csv.specs.Writing.{keyed, row_for, AreNewRows, IsWrittenAnew, CsvWrites, stays, anew, CsvKeeps}
use Rattle.hm_csv.proofs.RowLaws.{shown_is, FitsTree, FitsFile, AreRows, new_rows, new_tree, rows_stay}
use Rattle.hm_csv.proofs.KeptRows.{rows_kept}
use Rattle.hm_csv.proofs.ReadOnce.{mark_once, header_once, others_once}
use Rattle.hm_facts.proofs.Booleans.{is_true}

all_tail : {X : Type 0} (P : X → Type 0) (x : X) (xs : List X) → All P (x ∷ xs) → All P xs
all_tail P x xs h = λ k d lt. h (suc k) d (omega (arith, lt))

-- ---- one text is written

module _ (o : OptionsValue) (header : Fields) (others : List Fields) (t : Tree) where
  pub rows_one : (rows more : List Fields) → AreNewRows o header others t rows → AreNewRows o header others t more → rows ≡ more
  rows_one rows more h k =
      let lists = lists_once (edges t) h.lists k.lists h.below k.below in
      let slots : h.slots ≡ k.slots = subst (λ (l : List (Name × List Tree)). IsRewritten name_cmp (keyed o header others) l h.slots) lists h.rewritten_is ∙ sym k.rewritten_is in
      h.rows_are ∙ ap (map (row_for o header)) slots ∙ sym k.rows_are

pub anew_once : (o : OptionsValue) (t : Tree) (before one other : List ℕ) → IsWrittenAnew o t before one → IsWrittenAnew o t before other → one ≡ other
anew_once o t before one other h k =
    let mark = mark_once o before h.table k.table in
    let header = header_once o before h.table k.table in
    let others = others_once o before h.table k.table in
    let new : AreNewRows o k.table.header k.table.others t h.rows =
    subst (λ others. AreNewRows o k.table.header others t h.rows) others (subst (λ header. AreNewRows o header h.table.others t h.rows) header h.new) in
    let rows = rows_one o k.table.header k.table.others t h.rows k.rows new k.new in
    h.text ∙ (λ i. written (mark i) (header i ∷ rows i)) ∙ sym k.text

pub writes_once : (o : OptionsValue) (t : Tree) (before one other : List ℕ) → CsvWrites o t before one → CsvWrites o t before other → one ≡ other
writes_once o t before one other (stays h) (stays k) = refl
writes_once o t before one other (stays h) (anew not_read w) = absurd (not_read h)
writes_once o t before one other (anew not_read w) (stays k) = absurd (not_read k)
writes_once o t before one other (anew a h) (anew b k) = anew_once o t before one other h k

-- ---- tables

module _ (o : OptionsValue) (found : (header : Fields) → IsHeader (column_names o) header → AreColumns (columns_of o header) (key_place o header) (length header)) where
  module _ (bytes : List ℕ) (table : IsTable o bytes) where
    good : AreGood (column_names o) (table.header ∷ table.others)
    good = table.sheet.rows.good

    pub columns_are : AreColumns (columns_of o table.header) (key_place o table.header) (length table.header)
    columns_are = found table.header good.0

    texts : All (All IsUtf8) (table.header ∷ table.others)
    texts = records_text (column_names o) bytes (record { mark = table.mark; rows = table.header ∷ table.others }) table.sheet

    filled : table.header ≢ []
    filled = records_filled (column_names o) bytes (record { mark = table.mark; rows = table.header ∷ table.others }) table.sheet 0 table.header (omega arith)

    pub old_rows : All (HasKey o table.header) table.others → AreRows o table.header columns_are table.others
    old_rows keys = record { long = good.1; text = all_tail (All IsUtf8) table.header table.others texts; has = keys }

    -- records that fit, behind the mark and the header
    pub new_sheet : (rows : List Fields) → AreRows o table.header columns_are rows
        → IsSheet (column_names o) (written table.mark (table.header ∷ rows)) (record { mark = table.mark; rows = table.header ∷ rows })
    new_sheet rows fit =
        written_reads (column_names o) table.mark table.header rows filled (good.0, fit.long)
        (All-cons (All IsUtf8) table.header rows (texts 0 table.header (omega arith)) fit.text)

  -- ---- what is read is a book

  cards : (header : Fields) (rows : List Fields) (are : AreColumns (columns_of o header) (key_place o header) (length header)) → AreRows o header are rows
      → All (λ (x : Name × Tree). IsCard (shown_of o) x.1) (items_of o header rows)
  cards header [] are fit = All-nil (λ (x : Name × Tree). IsCard (shown_of o) x.1)
  cards header (row ∷ rows) are fit =
      All-cons (λ (x : Name × Tree). IsCard (shown_of o) x.1) (item_of o header row) (items_of o header rows)
      (subst (λ (s : Shown). IsCard s (card_of (columns_of o header) row)) (shown_is o header)
      (record_card (columns_of o header) row (fit.text 0 row (omega arith)) (key_place o header)
      (subst (AreColumns (columns_of o header) (key_place o header)) (sym (fit.long 0 row (omega arith))) are)))
      (cards header rows are (record { long = all_tail (λ (r : Fields). length r ≡ length header) row rows fit.long; text = all_tail (All IsUtf8) row rows fit.text; has = all_tail (HasKey o header) row rows fit.has }))

  keys : (header : Fields) (rows : List Fields) → All (HasKey o header) rows → All (λ (x : Name × Tree). IsFilled x.0) (items_of o header rows)
  keys header [] all = All-nil (λ (x : Name × Tree). IsFilled x.0)
  keys header (row ∷ rows) all =
      All-cons (λ (x : Name × Tree). IsFilled x.0) (item_of o header row) (items_of o header rows) (all 0 row (omega arith)) (keys header rows (all_tail (HasKey o header) row rows all))

  pub read_book : (bytes : List ℕ) (t : Tree) → IsBook o bytes t → books.IsBook (shown_of o) t
  read_book bytes t h =
      items_book (shown_of o) (items_of o h.table.header h.table.others) t h.tree (keys h.table.header h.table.others h.keyed)
      (cards h.table.header h.table.others (columns_are bytes h.table) (old_rows bytes h.table h.keyed))

  -- ---- what is to be written fits

  list_fits : (header : Fields) (are : AreColumns (columns_of o header) (key_place o header) (length header)) (k : Name) (list : List Tree) → IsUtf8 k → IsFilled k
      → All (IsCard (shown_of o)) list → Each name_cmp (FitsTree o header are k) list
  list_fits header are k [] text filled cards = tt
  list_fits header are k (card ∷ list) text filled cards = (
    record { text = text; filled = filled; card_is = cards 0 card (omega arith) },
    list_fits header are k list text filled (all_tail (IsCard (shown_of o)) card list cards),
  )

  fits_all : (header : Fields) (are : AreColumns (columns_of o header) (key_place o header) (length header)) (es : List (Name × Tree)) (lists : List (Name × List Tree))
      → T (are_edges es) → AreLists es lists → All (λ (l : Name × List Tree). IsFilled l.0) lists → All (λ (l : Name × List Tree). All (IsCard (shown_of o)) l.1) lists
      → AllFit name_cmp name_total name_one (FitsTree o header are) (FitsFile o header are) lists
  fits_all header are es [] edges_h h keys cards = tt
  fits_all header are [] (l ∷ lists) edges_h h keys cards = absurd h
  fits_all header are (e ∷ es) (l ∷ lists) edges_h h keys cards =
      let text : IsUtf8 l.0 = subst IsUtf8 h.0.0 (IsUtf8-from_is_utf8 e.0 (is_true _ (edges_head e es edges_h))) in (
        list_fits header are l.0 l.1 text (keys 0 l (omega arith)) (cards 0 l (omega arith)),
        fits_all header are es lists (edges_tail e es edges_h) h.1 (all_tail (λ (l : Name × List Tree). IsFilled l.0) l lists keys)
            (all_tail (λ (l : Name × List Tree). All (IsCard (shown_of o)) l.1) l lists cards),
      )

  -- ---- a tree that is written over a table

  module _ (bytes : List ℕ) (table : IsTable o bytes) (has : All (HasKey o table.header) table.others) (t : Tree) (book : books.IsBook (shown_of o) t)
      (rows : List Fields) (new : AreNewRows o table.header table.others t rows) where
    abbrev pub are : AreColumns (columns_of o table.header) (key_place o table.header) (length table.header)
    are = columns_are bytes table

    old : AreRows o table.header are table.others
    old = old_rows bytes table has

    same_lists : book.lists ≡ new.lists
    same_lists = lists_once (edges t) book.lists new.lists book.below new.below

    fits : AllFit name_cmp name_total name_one (FitsTree o table.header are) (FitsFile o table.header are) new.lists
    fits =
        fits_all table.header are (edges t) new.lists (edges_are t) new.below
        (subst (λ (ls : List (Name × List Tree)). All (λ (l : Name × List Tree). IsFilled l.0) ls) same_lists book.keys)
        (subst (λ (ls : List (Name × List Tree)). All (λ (l : Name × List Tree). All (IsCard (shown_of o)) l.1) ls) same_lists book.cards)

    rising : IsTree name_cmp new.lists
    rising = subst (IsTree name_cmp) same_lists book.tree_is

    pub rows_fit : AreRows o table.header are rows
    rows_fit = subst (AreRows o table.header are) (sym new.rows_are) (new_rows o table.header are table.others old t new.lists new.below rising fits new.slots new.rewritten_is)

    rows_tree : IsItemTree (items_of o table.header rows) t
    rows_tree =
        subst (λ rows. IsItemTree (items_of o table.header rows) t) (sym new.rows_are)
        (new_tree o table.header are table.others old t new.lists new.below rising fits new.slots new.rewritten_is)

    -- what stays of them
    pub rows_keep : AreKept o table.header rows [] table.others rows
    rows_keep =
        subst (λ (rs : List Fields). AreKept o table.header rs [] table.others rs) (sym new.rows_are)
        (rows_kept o table.header are table.others old t new.lists new.below rising fits new.slots new.rewritten_is)

    -- behind the mark and the header they are read as the tree
    pub written_book : IsBook o (written table.mark (table.header ∷ rows)) t
    written_book = record {
      table = record { mark = table.mark; header = table.header; others = rows; sheet = new_sheet bytes table rows rows_fit };
      keyed = rows_fit.has;
      tree = rows_tree;
    }

    -- and where they are the old ones, so were the bytes
    pub unchanged_book : rows ≡ table.others → IsBook o bytes t
    unchanged_book same = record { table = table; keyed = has; tree = subst (λ rows. IsItemTree (items_of o table.header rows) t) same rows_tree }

  -- where the bytes are read as the tree, the rows stay
  module _ (bytes : List ℕ) (t : Tree) (h : IsBook o bytes t) where
    abbrev there : AreColumns (columns_of o h.table.header) (key_place o h.table.header) (length h.table.header)
    there = columns_are bytes h.table

    pub own_rows : AreNewRows o h.table.header h.table.others t h.table.others
    own_rows =
        let slots = kept name_cmp h.tree.lists [] (keyed o h.table.header h.table.others) ++ added name_cmp (keyed o h.table.header h.table.others) h.tree.lists in
        record {
          lists = h.tree.lists;
          below = h.tree.below;
          slots = slots;
          rewritten_is = refl;
          rows_are = sym (rows_stay o h.table.header there h.table.others (old_rows bytes h.table h.keyed) t h.tree slots refl);
        }

  -- ---- the laws

  has_moved : (bytes : List ℕ) (a b : IsTable o bytes) → All (HasKey o a.header) a.others → All (HasKey o b.header) b.others
  has_moved bytes a b h =
      subst (λ others. All (HasKey o b.header) others) (others_once o bytes a b) (subst (λ header. All (HasKey o header) a.others) (header_once o bytes a b) h)

  module _ (are_names : T (are_edges (shown_of o))) where
    book_of : (t : Tree) → IsMember (books.book_schema (shown_of o)) (books.book_schema (shown_of o)).root (state (Some t)) → books.IsBook (shown_of o) t
    book_of t m = book_member (shown_of o) are_names t m

    pub members : (bytes : List ℕ) (t : Tree) → CsvReads o bytes (Ok t) → IsMember (books.book_schema (shown_of o)) (books.book_schema (shown_of o)).root (state (Some t))
    members bytes t h = member_book (shown_of o) are_names t (read_book bytes t h.0)

    module _ (before : List ℕ) (before_tree t : Tree) (read : CsvReads o before (Ok before_tree)) (member : IsMember (books.book_schema (shown_of o)) (books.book_schema (shown_of o)).root (state (Some t)))
        (over : depth_over t ≡ None) where
      anew_read : (after : List ℕ) → IsWrittenAnew o t before after → CsvReads o after (Ok t)
      anew_read after w =
          (subst (λ bytes. IsBook o bytes t) (sym w.text) (written_book before w.table (has_moved before read.0.table w.table read.0.keyed) t (book_of t member) w.rows w.new), shallow t over)

      pub put_get : (after : List ℕ) → CsvWrites o t before after → CsvReads o after (Ok t)
      put_get after (stays h) = h
      put_get after (anew not_read w) = anew_read after w

      kept_by : (table : IsTable o before) (rows : List Fields) → AreNewRows o table.header table.others t rows → (after : List ℕ)
          → IsSheet (column_names o) after (record { mark = table.mark; rows = table.header ∷ rows }) → CsvKeeps o before after
      kept_by table rows new after sheet = record {
        table = table;
        rows = rows;
        sheet = sheet;
        kept = rows_keep before table (has_moved before read.0.table table read.0.keyed) t (book_of t member) rows new;
      }

      pub keeps : (after : List ℕ) → CsvWrites o t before after → CsvKeeps o before after
      keeps after (stays h) = kept_by h.0.table h.0.table.others (own_rows before t h.0) before h.0.table.sheet
      keeps after (anew not_read w) =
          kept_by w.table w.rows w.new after
          (subst (λ bytes. IsSheet (column_names o) bytes (record { mark = w.table.mark; rows = w.table.header ∷ w.rows })) (sym w.text)
          (new_sheet before w.table w.rows (rows_fit before w.table (has_moved before read.0.table w.table read.0.keyed) t (book_of t member) w.rows w.new)))

      -- the bytes from before are read as the tree where its rows are the old ones
      pub decides_stays : (table : IsTable o before) (rows : List Fields) → AreNewRows o table.header table.others t rows → rows ≡ table.others → CsvReads o before (Ok t)
      decides_stays table rows new same =
          (unchanged_book before table (has_moved before read.0.table table read.0.keyed) t (book_of t member) rows new same, shallow t over)

      pub decides_anew : (table : IsTable o before) (rows : List Fields) → AreNewRows o table.header table.others t rows → rows ≢ table.others → ¬ (CsvReads o before (Ok t))
      decides_anew table rows new apart = λ h.
          let own = own_rows before t h.0 in
          let moved : AreNewRows o table.header table.others t h.0.table.others =
          subst (λ others. AreNewRows o table.header others t h.0.table.others) (others_once o before h.0.table table)
          (subst (λ header. AreNewRows o header h.0.table.others t h.0.table.others) (header_once o before h.0.table table) own) in
          apart (rows_one o table.header table.others t rows h.0.table.others new moved ∙ others_once o before h.0.table table)
