-- The texts that a field shows, and the pieces of the field that is made anew for others.
use Rattle.std.specs.Prelude.{ℕ, Bool, IsTrue, not, ◌||◌, List, ◌++◌, map, filter}
use Rattle.std.specs.FinSet.{FinSet, from_list, contains}
use Rattle.hm_tree.specs.Names.{Name, name_cmp}
use Rattle.hm_tree.specs.Classes.{IsFilled, is_text}
use Rattle.hm_tree.specs.Cleaned.{cleaned}
use Rattle.hm_tree.specs.Sets.{new_names}
use Rattle.hm_csv_fields.specs.Pieces.{pieces}

-- a piece shows its cleaned text, where that is one
abbrev pub is_shown : List ℕ → Bool
is_shown piece = is_text (cleaned piece)

-- the texts that pieces show, in their order, and the set of those of a field
abbrev pub shown : List (List ℕ) → List Name
shown ps = map cleaned (filter is_shown ps)

abbrev pub texts : List ℕ → FinSet name_cmp
texts field = from_list {R = name_cmp} (shown (pieces field))

-- a piece stays where it shows nothing, or a text that is in the new set
abbrev pub stays : FinSet name_cmp → List ℕ → Bool
stays set piece = not (is_shown piece) || contains set (cleaned piece)

-- the pieces that stay, in their order, and the texts that are new, by their bytes
abbrev pub new_pieces : List ℕ → FinSet name_cmp → List (List ℕ)
new_pieces field set = filter (stays set) (pieces field) ++ new_names (texts field) set

-- the texts of a set can be shown
abbrev pub AreFilled : FinSet name_cmp → Type 0
AreFilled set = (k : Name) → IsTrue (contains set k) → IsFilled k
