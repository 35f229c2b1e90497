-- What stays of a table, whatever it is written for: said of its records before and now (docs/FORMATS.md, "How a CSV file is
-- written anew"). Records from before and now are matched in their order, by their key and by their place, which is how many
-- before them have this key.
use Rattle.std.specs.Prelude.{◌≡◌, ◌<◌, ◌≤◌, ℕ, List, [], ◌∷◌, ◌++◌, map, length}
use Rattle.hm_tree.specs.Names.{name_cmp}
use Rattle.hm_schema.specs.Values.{OptionsValue}
use Rattle.hm_book_items.specs.Items.{of_key}
use Rattle.hm_csv_records.specs.Rows.{Fields}
use Rattle.hm_csv_columns.specs.Kept.{IsKept}
use Rattle.hm_csv.specs.Tables.{columns_of, key_of}

-- how many records have the key of another one
abbrev pub count_like : OptionsValue → Fields → Fields → List Fields → ℕ
count_like o header row rows = length (of_key name_cmp (key_of o header row) (map (λ r. (key_of o header r, r)) rows))

-- the records of a table from before that stand behind some others, and records now, of a table that has these records now
pub data AreKept (o : OptionsValue) (header : Fields) (now : List Fields) : List Fields → List Fields → List Fields → Type 0 where
  -- new records stand behind all
  behind : {before : List Fields} (new : List Fields) → AreKept o header now before [] new
  -- a record survives, with its key and what has to stay of its fields, where there is its place now: there are more of its key
  -- than stood before it
  survives : {row by : Fields} {before old new : List Fields} → count_like o header row before < count_like o header row now
      → key_of o header by ≡ key_of o header row → IsKept (columns_of o header) row by
      → AreKept o header now (before ++ row ∷ []) old new → AreKept o header now before (row ∷ old) (by ∷ new)
  -- and it goes where there isn't
  goes : {row : Fields} {before old new : List Fields} → count_like o header row now ≤ count_like o header row before
      → AreKept o header now (before ++ row ∷ []) old new → AreKept o header now before (row ∷ old) new
