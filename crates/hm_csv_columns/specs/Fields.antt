-- The texts that a field of a column shows, and the field that is made anew for others.
use Rattle.std.specs.Prelude.{ℕ, Bool, true, false, cond, ◌&&◌, List, [], ◌∷◌}
use Rattle.std.specs.Ordering.{eq_by_cmp}
use Rattle.std.specs.FinSet.{FinSet, from_list}
use Rattle.hm_tree.specs.Names.{Name, name_cmp}
use Rattle.hm_tree.specs.Sets.{ascending}
use Rattle.hm_csv_fields.specs.Pieces.{pieces, written}
use Rattle.hm_csv_fields.specs.Texts.{shown, new_pieces}

-- a field of a column of many texts has pieces; another one is a piece itself
abbrev pub pieces_of : Bool → List ℕ → List (List ℕ)
pieces_of many field = cond many (pieces field) (field ∷ [])

abbrev pub texts_shown : Bool → List ℕ → FinSet name_cmp
texts_shown many field = from_list {R = name_cmp} (shown (pieces_of many field))

-- ---- the field that is to show a set of texts

abbrev pub same_names : List Name → List Name → Bool
same_names [] [] = true
same_names [] (k ∷ ks) = false
same_names (n ∷ ns) [] = false
same_names (n ∷ ns) (k ∷ ks) = eq_by_cmp name_cmp n k && same_names ns ks

abbrev pub same_texts : FinSet name_cmp → FinSet name_cmp → Bool
same_texts one other = same_names (ascending one) (ascending other)

abbrev pub first_of : List Name → List ℕ
first_of [] = []
first_of (n ∷ ns) = n

-- made anew: its pieces that stay and the texts that are new; or the one text, or nothing where there is none
abbrev pub made : Bool → List ℕ → FinSet name_cmp → List ℕ
made many field set = cond many (written (new_pieces field set)) (first_of (ascending set))

-- a field whose texts stay is left alone
abbrev pub field_for : Bool → List ℕ → FinSet name_cmp → List ℕ
field_for many field set = cond (same_texts (texts_shown many field) set) field (made many field set)
