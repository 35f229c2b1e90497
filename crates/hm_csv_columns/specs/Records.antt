-- The card that a record shows, and the record that is to show another card.
use Rattle.std.specs.Prelude.{◌≡◌, ◌<◌, ℕ, ◌+◌, cond, List, [], ◌∷◌, map, length, get_or, All, T, Option, Some, None, slice_get, option_and_then}
use Rattle.std.specs.Bool.{◌==◌}
use Rattle.std.specs.List.{find, range_with_len}
use Rattle.hm_tree.specs.Names.{Name}
use Rattle.hm_tree.specs.Nodes.{Tree, are_edges}
use Rattle.hm_book_cards.specs.Cards.{Shown, Texts, card_tree, texts_at}
use Rattle.hm_csv_columns.specs.Fields.{texts_shown, field_for}
use Rattle.hm_csv_columns.specs.declared.column.Column.{Column}

abbrev pub Fields : Type 0
Fields = List (List ℕ)

-- the names of columns, each with whether its fields show many texts
abbrev pub shown_by : List Column → Shown
shown_by columns = map (λ (c : Column). (c.name, c.many)) columns

abbrev pub texts_by : List Column → Fields → Texts
texts_by columns row = map (λ (c : Column). (c.name, texts_shown c.many (get_or row c.place []))) columns

-- the card that a record shows
abbrev pub card_of : List Column → Fields → Tree
card_of columns row = card_tree (texts_by columns row)

-- ---- the record that is to show a card

-- the column at a place
abbrev pub column_at : List Column → ℕ → Option Column
column_at columns place = find (λ (c : Column). c.place == place) columns

-- a field that is in no column stays
abbrev pub field_in : Option Column → Tree → List ℕ → List ℕ
field_in None card field = field
field_in (Some c) card field = field_for c.many field (texts_at c.name card)

abbrev pub rewritten_from : List Column → Tree → ℕ → Fields → Fields
rewritten_from columns card place [] = []
rewritten_from columns card place (field ∷ fields) = field_in (column_at columns place) card field ∷ rewritten_from columns card (place + 1) fields

-- field by field
abbrev pub rewritten : List Column → Tree → Fields → Fields
rewritten columns card row = rewritten_from columns card 0 row

-- a record of so many fields that are empty but for the key
abbrev pub blank : ℕ → Name → ℕ → Fields
blank place key count = map (λ j. cond (j == place) key []) (range_with_len 0 count)

-- ---- the columns of a table

-- columns of different names, which rise, at different places of records of so many fields; none of them is the key's
pub record AreColumns (columns : List Column) (key count : ℕ) : Type 0 where
  pub names : T (are_edges (shown_by columns))
  pub within : All (λ (c : Column). c.place < count) columns
  pub apart : All (λ (c : Column). column_at columns c.place ≡ Some c) columns
  pub key_within : key < count
  pub key_apart : column_at columns key ≡ None

-- for each place which of the columns is there
abbrev pub AreSigns : List Column → List (Option ℕ) → ℕ → Type 0
AreSigns columns signs count =
    (length signs ≡ count) × ((place : ℕ) → place < count → option_and_then (slice_get columns) (get_or signs place None) ≡ column_at columns place)
