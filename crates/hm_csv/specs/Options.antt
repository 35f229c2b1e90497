-- The options of files of comma-separated values: the column of the key, columns that show a text, and columns that show many.
use Rattle.std.specs.Prelude.{false, true, List, [], ◌∷◌, ◌++◌, codes, map, Some, None}
use Rattle.std.specs.FinSet.{from_list}
use Rattle.hm_tree.specs.Names.{Name, name_cmp}
use Rattle.hm_tree.specs.Sets.{ascending}
use Rattle.hm_schema.specs.Values.{OptionsValue}
use Rattle.hm_format.specs.Options.{Rules, values_of, is_among}
use Rattle.hm_book_cards.specs.Cards.{Shown}

abbrev pub csv_rules : Rules
csv_rules =
    (codes "key", record { most = Some 1; required = true; declared = false })
    ∷ (codes "show", record { most = None; required = false; declared = false })
    ∷ (codes "many", record { most = None; required = false; declared = false }) ∷ []

abbrev pub first_name : List Name → Name
first_name [] = []
first_name (k ∷ ks) = k

-- the name of the key's column
abbrev pub key_name : OptionsValue → Name
key_name o = first_name (values_of o.pairs (codes "key"))

abbrev pub many_names : OptionsValue → List Name
many_names o = values_of o.pairs (codes "many")

abbrev pub shown_names : OptionsValue → List Name
shown_names o = ascending (from_list {R = name_cmp} (values_of o.pairs (codes "show") ++ many_names o))

-- the names that cards may have: those of the columns that are shown
abbrev pub shown_of : OptionsValue → Shown
shown_of o = map (λ k. (k, is_among (many_names o) k)) (shown_names o)

-- the names that the header is to have
abbrev pub column_names : OptionsValue → List Name
column_names o = key_name o ∷ shown_names o
