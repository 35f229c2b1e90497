-- A table: a header and records, with the columns that options name.
use Rattle.std.specs.Prelude.{ℕ, Bool, List, [], ◌∷◌, map, get_or, unwrap_or}
use Rattle.hm_tree.specs.Names.{Name}
use Rattle.hm_tree.specs.Cleaned.{cleaned}
use Rattle.hm_tree.specs.Classes.{IsFilled}
use Rattle.hm_tree.specs.Nodes.{Tree}
use Rattle.hm_schema.specs.Values.{OptionsValue}
use Rattle.hm_csv_records.specs.Rows.{Fields, column}
use Rattle.hm_csv_records.specs.Reads.{IsSheet}
use Rattle.hm_csv_columns.specs.declared.column.Column.{Column}
use Rattle.hm_csv_columns.specs.Records.{card_of}
use Rattle.hm_csv.specs.Options.{key_name, shown_of, column_names}

abbrev pub place_in : Fields → Name → ℕ
place_in header k = unwrap_or (column k header) 0

-- the place of the key, and the columns that are shown, by a header
abbrev pub key_place : OptionsValue → Fields → ℕ
key_place o header = place_in header (key_name o)

abbrev pub column_for : Fields → Name × Bool → Column
column_for header s = record { name = s.0; many = s.1; place = place_in header s.0 }

abbrev pub columns_of : OptionsValue → Fields → List Column
columns_of o header = map (column_for header) (shown_of o)

-- ---- records as items

-- the cleaned field of the key
abbrev pub key_of : OptionsValue → Fields → Fields → Name
key_of o header row = cleaned (get_or row (key_place o header) [])

-- a record as an item of the file: its key, and the card that it shows
abbrev pub item_of : OptionsValue → Fields → Fields → Name × Tree
item_of o header row = (key_of o header row, card_of (columns_of o header) row)

abbrev pub items_of : OptionsValue → Fields → List Fields → List (Name × Tree)
items_of o header rows = map (item_of o header) rows

-- a key that isn't of spaces alone
abbrev pub HasKey : OptionsValue → Fields → Fields → Type 0
HasKey o header row = IsFilled (key_of o header row)

-- the bytes are a table: perhaps a byte-order mark, a header that has the columns, and records as long as it is
pub record IsTable (o : OptionsValue) (bytes : List ℕ) : Type 0 where
  pub mark : Bool
  pub header : Fields
  pub others : List Fields
  pub sheet : IsSheet (column_names o) bytes (record { mark = mark; rows = header ∷ others })
