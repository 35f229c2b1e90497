-- What stays of a record, whatever it is written for: said of its fields before and now, by what they show (docs/FORMATS.md, "How
-- a CSV file is written anew").
use Rattle.std.specs.Prelude.{◌≡◌, ◌≢◌, ◌<◌, ℕ, Bool, true, not, ◌||◌, List, [], ◌∷◌, ◌++◌, filter, length, get_or, Option, Some}
use Rattle.std.specs.FinSet.{contains}
use Rattle.hm_tree.specs.Cleaned.{cleaned}
use Rattle.hm_csv_fields.specs.Pieces.{pieces}
use Rattle.hm_csv_fields.specs.Texts.{is_shown, texts}
use Rattle.hm_csv_columns.specs.declared.column.Column.{Column}
use Rattle.hm_csv_columns.specs.Fields.{texts_shown}
use Rattle.hm_csv_columns.specs.Records.{Fields, column_at}

-- a piece shows nothing, or a text that a field shows now
abbrev pub is_still : List ℕ → List ℕ → Bool
is_still now piece = not (is_shown piece) || contains (texts now) (cleaned piece)

-- the pieces of a field that show nothing, or a text that it shows now, are its first ones now, byte for byte and in their
-- order; but where one empty piece alone is left of them it may be empty, since no field is one empty piece
pub data ArePieces (old new : List ℕ) : Type 0 where
  in_front : (more : List (List ℕ)) → pieces new ≡ filter (is_still new) (pieces old) ++ more → ArePieces old new
  blank : filter (is_still new) (pieces old) ≡ [] ∷ [] → new ≡ [] → ArePieces old new

-- a field stays; but one of a column that shows other texts now may be another, and where it may show many its pieces stay that
-- show no other text
pub data IsField : Option Column → List ℕ → List ℕ → Type 0 where
  stays : {o : Option Column} {field : List ℕ} → IsField o field field
  changed : {c : Column} {old new : List ℕ} → texts_shown c.many new ≢ texts_shown c.many old → (c.many ≡ true → ArePieces old new) → IsField (Some c) old new

-- field by field
pub record IsKept (columns : List Column) (old new : Fields) : Type 0 where
  pub long : length new ≡ length old
  pub fields : (place : ℕ) → place < length old → IsField (column_at columns place) (get_or old place []) (get_or new place [])
