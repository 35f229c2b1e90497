-- What records and items are read as, below the columns of a table.
use Rattle.std.specs.Prelude.{◌≡◌, ℕ, ◌+◌, ◌<◌, List, [], ◌∷◌, ◌++◌, length, get_or, All, Option, Some, None, Result, Ok, Err, IsUtf8}
use Rattle.hm_tree.specs.Names.{Name}
use Rattle.hm_tree.specs.Cleaned.{cleaned}
use Rattle.hm_tree.specs.Classes.{IsFilled}
use Rattle.hm_tree.specs.Nodes.{Tree}
use Rattle.hm_book_items.specs.ItemTrees.{IsShallow, IsTooDeep}
use Rattle.hm_csv_records.specs.Rows.{Fields}
use Rattle.hm_csv_columns.specs.declared.column.Column.{Column}
use Rattle.hm_csv_columns.specs.Records.{card_of}
use Rattle.hm_format.specs.declared.fault.FormatFault.{FormatFault}
use Rattle.hm_format.specs.declared.fault.FormatFault.TheVariants.{BadOption, NotUtf8, BadItem, NoKey, TooDeep, Outside, Memory}
use Rattle.hm_format.specs.Formats.{deepest}

-- the cleaned field at the key's place, and the record as an item
abbrev pub key_at : ℕ → Fields → Name
key_at key row = cleaned (get_or row key [])

abbrev pub item_by : ℕ → List Column → Fields → Name × Tree
item_by key columns row = (key_at key row, card_of columns row)

abbrev pub IsKeyed : ℕ → Fields → Type 0
IsKeyed key row = IsFilled (key_at key row)

-- a record has the fields of the key and of the columns, and its text is UTF-8
pub record Suits (columns : List Column) (key : ℕ) (row : Fields) : Type 0 where
  pub key_within : key < length row
  pub within : All (λ (c : Column). c.place < length row) columns
  pub text : All IsUtf8 row

-- the item of a record that has a key, and none of one that has none
abbrev pub IsItem : ℕ → List Column → Fields → Option (Name × Tree) → Type 0
IsItem key columns row None = ¬ (IsKeyed key row)
IsItem key columns row (Some item) = IsKeyed key row × (item ≡ item_by key columns row)

-- the first of the records behind the header that has no key, by its number, the header's being 1
pub record IsFirstKeyless (key : ℕ) (rows : List Fields) (number : ℕ) : Type 0 where
  pub before : List Fields
  pub row : Fields
  pub after : List Fields
  pub are : rows ≡ before ++ row ∷ after
  pub keyed : All (IsKeyed key) before
  pub keyless : ¬ (IsKeyed key row)
  pub place : number ≡ length before + 2

-- why records aren't items
abbrev pub IsKeyFault : ℕ → List Fields → FormatFault → Type 0
IsKeyFault key rows (NoKey number) = IsFirstKeyless key rows number
IsKeyFault key rows Memory = Unit {0}
IsKeyFault key rows (BadOption name) = ⊥
IsKeyFault key rows (NotUtf8 at) = ⊥
IsKeyFault key rows (BadItem number) = ⊥
IsKeyFault key rows (TooDeep depth) = ⊥
IsKeyFault key rows (Outside path) = ⊥

-- the tree of items, or how deep it would be
abbrev pub GivesTree : List (Name × Tree) → Result Tree FormatFault → Type 0
GivesTree items (Ok tree) = IsShallow items deepest tree
GivesTree items (Err (TooDeep depth)) = IsTooDeep items deepest depth
GivesTree items (Err Memory) = Unit {0}
GivesTree items (Err (BadOption name)) = ⊥
GivesTree items (Err (NotUtf8 at)) = ⊥
GivesTree items (Err (BadItem number)) = ⊥
GivesTree items (Err (NoKey number)) = ⊥
GivesTree items (Err (Outside path)) = ⊥
