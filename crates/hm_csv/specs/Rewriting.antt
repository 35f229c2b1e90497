-- The records of an opened file that are written for the slots of a plan.
use Rattle.std.specs.Prelude.{◌≡◌, ◌≢◌, ◌<◌, ◌↔◌, ℕ, Bool, List, [], ◌∷◌, ◌++◌, map, length, get_or, slice_get, drop, All, IsUtf8, IsTrue, Option, Some, None, MatchOption, Vec}
use Rattle.std.specs.declared.alloc.Global.{Global}
use Rattle.std.specs.Option.{option_map}
use Rattle.csv.specs.Records.{fields_of}
use Rattle.hm_tree.specs.Names.{Name, name_cmp}
use Rattle.hm_tree.specs.Cleaned.{cleaned}
use Rattle.hm_tree.specs.Nodes.{Tree, empty}
use Rattle.hm_book_items.specs.declared.planned.NewItem.{NewItem}
use Rattle.hm_book_items.specs.Items.{IsRewritten}
use Rattle.hm_csv_records.specs.Rows.{Fields}
use Rattle.hm_csv_records.specs.Written.{written, HasWritten}
use Rattle.hm_csv_records.specs.declared.writer.RecordsWriter.{RecordsWriter}
use Rattle.hm_csv_columns.specs.Records.{AreSigns, rewritten, blank}
use Rattle.hm_csv.specs.declared.opening.Opened.{Opened}
use Rattle.hm_csv.specs.Writing.{Slots}

abbrev pub Lists : Type 0
Lists = List (Name × List Tree)

-- the records, the header among them, and the others
abbrev pub rows_in : Opened → List Fields
rows_in w = map fields_of w.rows.items

abbrev pub header_in : Opened → Fields
header_in w = get_or (rows_in w) 0 []

abbrev pub others_in : Opened → List Fields
others_in w = drop 1 (rows_in w)

-- records of one length, of texts, with the columns at their places
pub record IsEven (w : Opened) : Type 0 where
  pub some : 0 < length w.rows.items
  pub long : All (λ row. length (fields_of row) ≡ length (header_in w)) w.rows.items
  pub text : All (λ row. All IsUtf8 (fields_of row)) w.rows.items
  pub signs : AreSigns w.table.columns.items w.table.signs.items (length (header_in w))
  pub key : w.key < length (header_in w)

-- a record's key, and records with their keys
abbrev pub key_in : ℕ → Fields → Name
key_in key row = cleaned (get_or row key [])

abbrev pub keyed_in : Opened → List (Name × Fields)
keyed_in w = map (λ row. (key_in w.key row, row)) (others_in w)

-- how many items there are to be with each key
abbrev pub counts_in : Lists → List (Name × ℕ)
counts_in lists = map (λ l. (l.0, length l.1)) lists

-- ---- the record of a slot

abbrev pub base_in : Opened → Name → Option Fields → Fields
base_in w key None = blank w.key key (length (header_in w))
base_in w key (Some row) = row

abbrev pub row_in : Opened → Name × Option Fields × Tree → Fields
row_in w s = rewritten w.table.columns.items s.2 (base_in w s.0 s.1)

-- what a slot says: its key, the record from before, and the card
abbrev pub list_at : Lists → ℕ → Name × List Tree
list_at lists edge = get_or lists edge ([], [])

abbrev pub slot_in : Opened → Lists → NewItem → Name × Option Fields × Tree
slot_in w lists s = ((list_at lists s.edge).0, option_map (λ i. get_or (others_in w) i []) s.from, get_or (list_at lists s.edge).1 s.place empty)

abbrev pub slot_rows : Opened → Lists → List NewItem → List Fields
slot_rows w lists slots = map (λ s. row_in w (slot_in w lists s)) slots

-- a slot is of a list, at one of its places, and comes from one of the records from before, if from any
pub record IsInside (w : Opened) (lists : Lists) (s : NewItem) : Type 0 where
  pub edge : s.edge < length lists
  pub place : s.place < length (list_at lists s.edge).1
  pub from : (i : ℕ) → s.from ≡ Some i → i < length (others_in w)

-- a record was written behind others, and it's told whether it stands at a place of some
pub record IsAppended (rows : List Fields) (at : ℕ) (old new : RecordsWriter) (row : Fields) (stands : Bool) : Type 0 where
  pub written_is : (mark : Bool) (before : List Fields) → HasWritten old mark before → HasWritten new mark (before ++ row ∷ [])
  pub told : IsTrue stands ↔ (slice_get rows at ≡ Some row)

-- ---- all records

-- the records that are to show lists of cards
pub record AreRowsFor (w : Opened) (lists : Lists) (rows : List Fields) : Type 0 where
  pub slots : Slots
  pub rewritten_is : IsRewritten name_cmp (keyed_in w) lists slots
  pub rows_are : rows ≡ map (row_in w) slots

-- their text, or nothing where they are those from before
pub record IsAnew (w : Opened) (lists : Lists) (text : Option (Vec ℕ Global)) : Type 0 where
  pub rows : List Fields
  pub are : AreRowsFor w lists rows
  pub written_is : MatchOption text (rows ≡ others_in w) (λ text. (rows ≢ others_in w) × (text.items ≡ written w.mark (header_in w ∷ rows)))
