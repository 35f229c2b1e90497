-- What is written of a tree behind the bytes from before, and what stays.
use Rattle.std.specs.Prelude.{◌≡◌, ℕ, List, [], ◌∷◌, map, length, Option, Some, None, Ok}
use Rattle.hm_tree.specs.Names.{Name, name_cmp}
use Rattle.hm_tree.specs.Nodes.{Tree, edges}
use Rattle.hm_schema.specs.Values.{OptionsValue}
use Rattle.hm_book_items.specs.Items.{IsRewritten}
use Rattle.hm_book_items.specs.ItemTrees.{AreLists}
use Rattle.hm_csv_records.specs.Rows.{Fields}
use Rattle.hm_csv_records.specs.Reads.{IsSheet}
use Rattle.hm_csv_records.specs.Written.{written}
use Rattle.hm_csv_columns.specs.Records.{rewritten, blank}
use Rattle.hm_format.specs.Options.{accepted, bad_key}
use Rattle.hm_format.specs.Formats.{FormatMeaning, depth_over}
use Rattle.hm_book_cards.specs.Books.{book_schema}
use Rattle.hm_csv.specs.Options.{csv_rules, shown_of, column_names}
use Rattle.hm_csv.specs.Tables.{key_place, columns_of, key_of, IsTable}
use Rattle.hm_csv.specs.Files.{CsvReads}
use Rattle.hm_csv.specs.Kept.{AreKept}

-- ---- records

-- a record from before, or a blank one with the key
abbrev pub base : OptionsValue → Fields → Name → Option Fields → Fields
base o header key None = blank (key_place o header) key (length header)
base o header key (Some row) = row

-- the record that is to show a card
abbrev pub new_row : OptionsValue → Fields → Name → Option Fields → Tree → Fields
new_row o header key old card = rewritten (columns_of o header) card (base o header key old)

-- records with their keys
abbrev pub keyed : OptionsValue → Fields → List Fields → List (Name × Fields)
keyed o header rows = map (λ row. (key_of o header row, row)) rows

abbrev pub Slots : Type 0
Slots = List (Name × Option Fields × Tree)

abbrev pub row_for : OptionsValue → Fields → Name × Option Fields × Tree → Fields
row_for o header s = new_row o header s.0 s.1 s.2

-- the records behind those of a table that are to show a tree: those that survive stay in their order, and new ones follow
-- by their keys
pub record AreNewRows (o : OptionsValue) (header : Fields) (others : List Fields) (t : Tree) (rows : List Fields) : Type 0 where
  pub lists : List (Name × List Tree)
  pub below : AreLists (edges t) lists
  pub slots : Slots
  pub rewritten_is : IsRewritten name_cmp (keyed o header others) lists slots
  pub rows_are : rows ≡ map (row_for o header) slots

-- ---- files

-- the mark and the header stay, and the records are those that are to show the tree
pub record IsWrittenAnew (o : OptionsValue) (t : Tree) (before after : List ℕ) : Type 0 where
  pub table : IsTable o before
  pub rows : List Fields
  pub new : AreNewRows o table.header table.others t rows
  pub text : after ≡ written table.mark (table.header ∷ rows)

-- the bytes from before stay where they are read as the tree
pub data CsvWrites (o : OptionsValue) (t : Tree) (before : List ℕ) : List ℕ → Type 0 where
  stays : CsvReads o before (Ok t) → CsvWrites o t before before
  anew : {after : List ℕ} → ¬ (CsvReads o before (Ok t)) → IsWrittenAnew o t before after → CsvWrites o t before after

-- ---- what stays

-- the mark and the header stay, and of the records what has to, whatever tree is written: they survive by their keys and places,
-- each with its fields that are hidden or whose texts don't change, and with the pieces of the others that stay
pub record CsvKeeps (o : OptionsValue) (before after : List ℕ) : Type 0 where
  pub table : IsTable o before
  pub rows : List Fields
  pub sheet : IsSheet (column_names o) after (record { mark = table.mark; rows = table.header ∷ rows })
  pub kept : AreKept o table.header rows [] table.others rows

-- ---- the format

abbrev pub csv : FormatMeaning
csv = record {
  tag = 5;
  schema_of = λ o. accepted (bad_key csv_rules o) (book_schema (shown_of o));
  reads = CsvReads;
  over = depth_over;
  writes = CsvWrites;
  keeps = CsvKeeps;
}
