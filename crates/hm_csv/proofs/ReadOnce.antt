-- Bytes are read as one book, or refused for one fault.
use Rattle.std.proofs.Common.{◌≡◌, ℕ, ◌+◌, ◌≤◌, List, ◌∷◌, sym, ap, ◌∙◌, subst, arith}
use Rattle.std.specs.Prelude.{All, IsUtf8, Result, Ok, Err}
use Rattle.hm_tree.specs.Nodes.{Tree, depth}
use Rattle.hm_schema.specs.Values.{OptionsValue}
use Rattle.hm_book_items.specs.ItemTrees.{IsItemTree}
use Rattle.hm_book_items.proofs.Laws.{item_tree_once}
use Rattle.hm_csv_records.specs.Rows.{Fields}
use Rattle.hm_csv_records.specs.Reads.{Sheet, StopsAt, IsBadItem}
use Rattle.hm_csv_records.specs.declared.fault.RecordsFault.TheVariants as records
use Rattle.hm_csv_records.proofs.Laws.{records_once}
use Rattle.hm_format.specs.declared.fault.FormatFault.{FormatFault}
use Rattle.hm_format.specs.declared.fault.FormatFault.TheVariants.{BadOption, NotUtf8, BadItem, NoKey, TooDeep, Outside, Memory}
use Rattle.hm_format.specs.Formats.{IsReadFault, deepest}
use Rattle.hm_csv.specs.Options.{column_names}
use Rattle.hm_csv.specs.Tables.{IsTable, HasKey, items_of}
use Rattle.hm_csv.specs.Files.{IsBook, IsKeyless, IsTooDeep, CsvReads}
use Rattle.hm_facts.proofs.Lists.{first_break, no_break}

module _ (o : OptionsValue) (bytes : List ℕ) where
  abbrev sheet_in : IsTable o bytes → Sheet
  sheet_in t = record { mark = t.mark; rows = t.header ∷ t.others }

  pub sheet_once : (a b : IsTable o bytes) → sheet_in a ≡ sheet_in b
  sheet_once a b =
      let e = records_once (column_names o) bytes (Ok (sheet_in a)) (Ok (sheet_in b)) a.sheet b.sheet in
      cc

  pub mark_once : (a b : IsTable o bytes) → a.mark ≡ b.mark
  mark_once a b = ap (λ (s : Sheet). s.mark) (sheet_once a b)

  rows_once : (a b : IsTable o bytes) → (a.header ∷ a.others) ≡ (b.header ∷ b.others)
  rows_once a b = ap (λ (s : Sheet). s.rows) (sheet_once a b)

  pub header_once : (a b : IsTable o bytes) → a.header ≡ b.header
  header_once a b = let e = rows_once a b in cc

  pub others_once : (a b : IsTable o bytes) → a.others ≡ b.others
  others_once a b = let e = rows_once a b in cc

  -- what is said of the records of one table is said of those of the other
  moved : (P : Fields → List Fields → Type 0) (a b : IsTable o bytes) → P a.header a.others → P b.header b.others
  moved P a b h = subst (P b.header) (others_once a b) (subst (λ header. P header a.others) (header_once a b) h)

  book_once : (t u : Tree) → IsBook o bytes t → IsBook o bytes u → t ≡ u
  book_once t u h k =
      item_tree_once (items_of o k.table.header k.table.others) t u
      (moved (λ header others. IsItemTree (items_of o header others) t) h.table k.table h.tree) k.tree

  pub no_stop : (at : ℕ) → IsTable o bytes → ¬ (StopsAt bytes at)
  no_stop at t stop = stop.broken t.sheet.text

  pub no_bad : (number : ℕ) → IsTable o bytes → ¬ (IsUtf8 bytes × IsBadItem (column_names o) bytes number)
  no_bad number t bad =
      let e = records_once (column_names o) bytes (Ok (sheet_in t)) (Err (records.BadItem number)) t.sheet bad in
      let no : ⊥ = cc in
      no

  -- a keyless record is among those of a table
  no_key : (number : ℕ) (t : IsTable o bytes) → All (HasKey o t.header) t.others → ¬ (IsKeyless o bytes number)
  no_key number t keyed k =
      let all = moved (λ header others. All (HasKey o header) others) t k.table keyed in
      k.keyless (no_break (HasKey o k.table.header) k.before k.after k.row (subst (All (HasKey o k.table.header)) k.are all))

  keyless_once : (n m : ℕ) → IsKeyless o bytes n → IsKeyless o bytes m → n ≡ m
  keyless_once n m h k =
      let keyed = subst (λ header. All (HasKey o header) h.before) (header_once h.table k.table) h.keyed in
      let keyless = subst (λ header. ¬ (HasKey o header h.row)) (header_once h.table k.table) h.keyless in
      let e = sym h.are ∙ others_once h.table k.table ∙ k.are in
      let same = first_break (HasKey o k.table.header) h.before k.before h.row k.row h.after k.after e keyed keyless k.keyed k.keyless in
      h.place ∙ ap (λ j. j + 2) same ∙ sym k.place

  stop_once : (a b : ℕ) → StopsAt bytes a → StopsAt bytes b → a ≡ b
  stop_once a b h k = h.place ∙ sym k.place

  bad_once : (a b : ℕ) → IsUtf8 bytes × IsBadItem (column_names o) bytes a → IsUtf8 bytes × IsBadItem (column_names o) bytes b → a ≡ b
  bad_once a b h k =
      let e = records_once (column_names o) bytes (Err (records.BadItem a)) (Err (records.BadItem b)) h k in
      cc

  deep_apart : (t : Tree) (d : ℕ) → IsBook o bytes t → depth t ≤ deepest → ¬ (IsTooDeep o bytes d)
  deep_apart t d h within k =
      let same = ap depth (book_once t k.tree h k.book) in
      let over = k.over in
      let is = k.depth_is in
      omega (arith, within, same, over, is)

  pub read_once : (r q : Result Tree FormatFault) → CsvReads o bytes r → CsvReads o bytes q → r ≡ q
  read_once (Err (BadOption key)) q h k = absurd h
  read_once (Err (Outside path)) q h k = absurd h
  read_once (Err Memory) q h k = absurd h
  read_once r (Err (BadOption key)) h k = absurd k
  read_once r (Err (Outside path)) h k = absurd k
  read_once r (Err Memory) h k = absurd k
  read_once (Ok t) (Ok u) h k = ap Ok (book_once t u h.0 k.0)
  read_once (Ok t) (Err (NotUtf8 at)) h k = absurd (no_stop at h.0.table k)
  read_once (Ok t) (Err (BadItem n)) h k = absurd (no_bad n h.0.table k)
  read_once (Ok t) (Err (NoKey n)) h k = absurd (no_key n h.0.table h.0.keyed k)
  read_once (Ok t) (Err (TooDeep d)) h k = absurd (deep_apart t d h.0 h.1 k)
  read_once (Err (NotUtf8 at)) (Ok u) h k = absurd (no_stop at k.0.table h)
  read_once (Err (NotUtf8 at)) (Err (NotUtf8 place)) h k = ap (λ n. Err (NotUtf8 n)) (stop_once at place h k)
  read_once (Err (NotUtf8 at)) (Err (BadItem n)) h k = absurd (h.broken k.0)
  read_once (Err (NotUtf8 at)) (Err (NoKey n)) h k = absurd (no_stop at k.table h)
  read_once (Err (NotUtf8 at)) (Err (TooDeep d)) h k = absurd (no_stop at k.book.table h)
  read_once (Err (BadItem n)) (Ok u) h k = absurd (no_bad n k.0.table h)
  read_once (Err (BadItem n)) (Err (NotUtf8 at)) h k = absurd (k.broken h.0)
  read_once (Err (BadItem n)) (Err (BadItem m)) h k = ap (λ n. Err (BadItem n)) (bad_once n m h k)
  read_once (Err (BadItem n)) (Err (NoKey m)) h k = absurd (no_bad n k.table h)
  read_once (Err (BadItem n)) (Err (TooDeep d)) h k = absurd (no_bad n k.book.table h)
  read_once (Err (NoKey n)) (Ok u) h k = absurd (no_key n k.0.table k.0.keyed h)
  read_once (Err (NoKey n)) (Err (NotUtf8 at)) h k = absurd (no_stop at h.table k)
  read_once (Err (NoKey n)) (Err (BadItem m)) h k = absurd (no_bad m h.table k)
  read_once (Err (NoKey n)) (Err (NoKey m)) h k = ap (λ n. Err (NoKey n)) (keyless_once n m h k)
  read_once (Err (NoKey n)) (Err (TooDeep d)) h k = absurd (no_key n k.book.table k.book.keyed h)
  read_once (Err (TooDeep d)) (Ok u) h k = absurd (deep_apart u d k.0 k.1 h)
  read_once (Err (TooDeep d)) (Err (NotUtf8 at)) h k = absurd (no_stop at h.book.table k)
  read_once (Err (TooDeep d)) (Err (BadItem n)) h k = absurd (no_bad n h.book.table k)
  read_once (Err (TooDeep d)) (Err (NoKey n)) h k = absurd (no_key n h.book.table h.book.keyed k)
  read_once (Err (TooDeep d)) (Err (TooDeep e)) h k =
      ap (λ n. Err (TooDeep n)) (h.depth_is ∙ ap depth (book_once h.tree k.tree h.book k.book) ∙ sym k.depth_is)

  pub read_faults : (f : FormatFault) → CsvReads o bytes (Err f) → IsReadFault f
  read_faults (BadOption key) h = absurd h
  read_faults (NotUtf8 at) h = tt
  read_faults (BadItem n) h = tt
  read_faults (NoKey n) h = tt
  read_faults (TooDeep d) h = tt
  read_faults (Outside path) h = absurd h
  read_faults Memory h = absurd h
