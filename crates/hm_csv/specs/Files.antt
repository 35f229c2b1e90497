-- What files of comma-separated values are read as (RFC 4180): address books, or why they are none.
use Rattle.std.specs.Prelude.{◌≡◌, ℕ, ◌+◌, ◌<◌, ◌≤◌, List, ◌∷◌, ◌++◌, length, All, Result, Ok, Err, IsUtf8}
use Rattle.hm_tree.specs.Nodes.{Tree, depth}
use Rattle.hm_schema.specs.Values.{OptionsValue}
use Rattle.hm_book_items.specs.ItemTrees.{IsItemTree}
use Rattle.hm_csv_records.specs.Rows.{Fields}
use Rattle.hm_csv_records.specs.Reads.{StopsAt, IsBadItem}
use Rattle.hm_format.specs.declared.fault.FormatFault.{FormatFault}
use Rattle.hm_format.specs.declared.fault.FormatFault.TheVariants.{BadOption, NotUtf8, BadItem, NoKey, TooDeep, Outside, Memory}
use Rattle.hm_format.specs.Formats.{deepest}
use Rattle.hm_csv.specs.Options.{column_names}
use Rattle.hm_csv.specs.Tables.{IsTable, HasKey, items_of}

-- a table of which each record has a key, and the tree of its records
pub record IsBook (o : OptionsValue) (bytes : List ℕ) (t : Tree) : Type 0 where
  pub table : IsTable o bytes
  pub keyed : All (HasKey o table.header) table.others
  pub tree : IsItemTree (items_of o table.header table.others) t

-- the record of this number, the header's being 1, has no key, and each before it has
pub record IsKeyless (o : OptionsValue) (bytes : List ℕ) (number : ℕ) : Type 0 where
  pub table : IsTable o bytes
  pub before : List Fields
  pub row : Fields
  pub after : List Fields
  pub are : table.others ≡ before ++ row ∷ after
  pub keyed : All (HasKey o table.header) before
  pub keyless : ¬ (HasKey o table.header row)
  pub place : number ≡ length before + 2

-- a book of this depth, which is over the limit
pub record IsTooDeep (o : OptionsValue) (bytes : List ℕ) (d : ℕ) : Type 0 where
  pub tree : Tree
  pub book : IsBook o bytes tree
  pub depth_is : d ≡ depth tree
  pub over : deepest < d

abbrev pub CsvReads : OptionsValue → List ℕ → Result Tree FormatFault → Type 0
CsvReads o bytes (Ok tree) = IsBook o bytes tree × (depth tree ≤ deepest)
CsvReads o bytes (Err (NotUtf8 at)) = StopsAt bytes at
CsvReads o bytes (Err (BadItem number)) = IsUtf8 bytes × IsBadItem (column_names o) bytes number
CsvReads o bytes (Err (NoKey number)) = IsKeyless o bytes number
CsvReads o bytes (Err (TooDeep d)) = IsTooDeep o bytes d
CsvReads o bytes (Err (BadOption key)) = ⊥
CsvReads o bytes (Err (Outside path)) = ⊥
CsvReads o bytes (Err Memory) = ⊥
