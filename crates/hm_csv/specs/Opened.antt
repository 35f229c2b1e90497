-- A file that was opened: its records, the place of the key, and the columns that are shown.
use Rattle.std.specs.Prelude.{◌≡◌, ℕ, List, ◌∷◌, map, length, All, IsUtf8}
use Rattle.csv.specs.Records.{fields_of}
use Rattle.hm_tree.specs.Names.{Name}
use Rattle.hm_schema.specs.Values.{OptionsValue}
use Rattle.hm_csv_records.specs.Rows.{Fields}
use Rattle.hm_csv_records.specs.Reads.{IsSheet, StopsAt, IsBadItem}
use Rattle.hm_csv_columns.specs.Records.{AreSigns}
use Rattle.hm_format.specs.declared.fault.FormatFault.{FormatFault}
use Rattle.hm_format.specs.declared.fault.FormatFault.TheVariants.{BadOption, NotUtf8, BadItem, NoKey, TooDeep, Outside, Memory}
use Rattle.hm_csv.specs.Options.{column_names}
use Rattle.hm_csv.specs.Tables.{key_place, columns_of}
use Rattle.hm_csv.specs.declared.opening.Opened.{Opened}

-- what was opened is the table of the bytes
pub record IsOpened (o : OptionsValue) (bytes : List ℕ) (w : Opened) : Type 0 where
  pub header : Fields
  pub others : List Fields
  pub rows_are : map fields_of w.rows.items ≡ header ∷ others
  pub sheet : IsSheet (column_names o) bytes (record { mark = w.mark; rows = header ∷ others })
  pub key_is : w.key ≡ key_place o header
  pub columns_are : w.table.columns.items ≡ columns_of o header
  pub signs : AreSigns w.table.columns.items w.table.signs.items (length header)
  pub text : All (λ row. All IsUtf8 (fields_of row)) w.rows.items

-- why bytes aren't opened, where the header is to have columns of some names
abbrev pub Hinders : List Name → List ℕ → FormatFault → Type 0
Hinders names bytes (NotUtf8 at) = StopsAt bytes at
Hinders names bytes (BadItem number) = IsUtf8 bytes × IsBadItem names bytes number
Hinders names bytes Memory = Unit {0}
Hinders names bytes (BadOption key) = ⊥
Hinders names bytes (NoKey number) = ⊥
Hinders names bytes (TooDeep depth) = ⊥
Hinders names bytes (Outside path) = ⊥
