-- Records of comma-separated values: rows of fields, each of bytes. The first record of a file is its header.
use Rattle.std.specs.Prelude.{◌≡◌, ◌≢◌, ℕ, suc, cond, List, [], ◌∷◌, ◌++◌, length, All, Option, Some, None}
use Rattle.std.specs.Option.{option_map}
use Rattle.std.specs.Ordering.{eq_by_cmp}
use Rattle.hm_tree.specs.Names.{Name, name_cmp}
use Rattle.hm_tree.specs.Cleaned.{cleaned}

abbrev pub Fields : Type 0
Fields = List (List ℕ)

-- U+FEFF in UTF-8
abbrev pub byte_order_mark : List ℕ
byte_order_mark = 0xEF ∷ 0xBB ∷ 0xBF ∷ []

abbrev pub BeginsWithMark : List ℕ → Type 0
BeginsWithMark bytes = (rest : List ℕ) × (bytes ≡ byte_order_mark ++ rest)

-- the first field begins with a byte-order mark
abbrev pub IsMarked : Fields → Type 0
IsMarked [] = ⊥
IsMarked (field ∷ fields) = BeginsWithMark field

-- ---- columns

-- the place of the first field that is this name when it's cleaned
abbrev pub column : Name → Fields → Option ℕ
column k [] = None
column k (field ∷ fields) = cond (eq_by_cmp name_cmp k (cleaned field)) (Some 0) (option_map suc (column k fields))

-- a record may be the header of columns with these names: it isn't marked, and each name is that of a field
pub record IsHeader (names : List Name) (row : Fields) : Type 0 where
  pub plain : ¬ (IsMarked row)
  pub columns : All (λ k. column k row ≢ None) names

-- ---- good and bad records

-- a record behind others: with none before it it's to be the header; another is bad where it isn't as long as the header
abbrev pub IsBad : List Name → List Fields → Fields → Type 0
IsBad names [] row = ¬ (IsHeader names row)
IsBad names (header ∷ others) row = length row ≢ length header

-- no record is bad
abbrev pub AreGood : List Name → List Fields → Type 0
AreGood names [] = Unit {0}
AreGood names (header ∷ others) = IsHeader names header × All (λ row. length row ≡ length header) others
