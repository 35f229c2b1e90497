-- The names of a list, grouped by their folded names.
use Rattle.std.specs.Prelude.{◌≡◌, ◌≢◌, ℕ, List, [], ◌∷◌, ◌++◌, All, Contains, map, bytes_eq, slice_index_or, slice_set, Vec, String, string_bytes}
use Rattle.std.specs.declared.alloc.Global.{Global}
use Rattle.std.specs.Borrow.{Bor}
use Rattle.std.specs.List.{IsDistinct}
use Rattle.std.specs.List.Sorted.{IsStrictlySortedBy}
use Rattle.hm_tree.specs.Names.{Name, name_cmp}
use Rattle.hm_alike.specs.Alike.{folded, folded_to, first_name}

-- names that are lent
abbrev pub lent : List (Bor Name) → List Name
lent names = map (λ n. n.now) names

-- lists of them
abbrev pub lent_lists : List (Vec (Bor Name) Global) → List (List Name)
lent_lists lists = map (λ l. lent l.items) lists

-- the bytes of texts
abbrev pub bytes_of : List (String Global) → List Name
bytes_of texts = map string_bytes texts

-- lists of names where one has a name more behind the others
abbrev pub with_name : List (List Name) → ℕ → Name → List (List Name)
with_name lists place n = slice_set lists place (slice_index_or lists place [] ++ n ∷ [])

-- the folded names of a list's names, each once, and the names that have each of them, in the order of the first ones
pub record AreGroups (names texts : List Name) (groups : List (List Name)) : Type 0 where
  pub each : groups ≡ map (folded_to names) texts
  pub known : (n : Name) → Contains names n → Contains texts (folded n)
  pub apart : IsDistinct bytes_eq texts
  pub some : All (λ t. folded_to names t ≢ []) texts
  pub ascending : IsStrictlySortedBy name_cmp (map first_name groups)
