-- What names lead to where two lists are laid over one another.
use Rattle.std.specs.Prelude.{◌≡◌, cond, List, length, Option, Some, None}
use Rattle.std.specs.List.{zip}
use Rattle.std.specs.List.Sorted.{IsStrictlySortedBy}
use Rattle.std.specs.Ordering.{eq_by_cmp}
use Rattle.std.specs.Option.{option_or}
use Rattle.std.specs.FinMap.{find}
use Rattle.std.specs.FinSet.{contains}
use Rattle.hm_tree.specs.Names.{Name, name_cmp}
use Rattle.hm_schema.specs.Values.{Names}

-- a name of a set leads to what it leads to in the first list; all other names, and those that this doesn't have, to what they
-- lead to in the second
abbrev pub overlay : {X : Type 0} → Names → List (Name × X) → List (Name × X) → Name → Option X
overlay names ones twos k = option_or (cond (contains names k) (find name_cmp k ones) None) (find name_cmp k twos)

-- names that rise and what they lead to: one name to something, all others as in a list
pub record HasEdge {X : Type 0} (k : Name) (x : X) (es : List (Name × X)) (ks : List Name) (xs : List X) : Type 0 where
  pub rises : IsStrictlySortedBy name_cmp ks
  pub count : length xs ≡ length ks
  pub leads : (m : Name) → find name_cmp m (zip ks xs) ≡ cond (eq_by_cmp name_cmp m k) (Some x) (find name_cmp m es)
