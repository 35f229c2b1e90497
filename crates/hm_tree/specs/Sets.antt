-- The names of a set, in ascending order.
use Rattle.std.specs.Prelude.{◌≡◌, ℕ, ◌<◌, ◌≤◌, not, List, [], ◌∷◌, map, filter, length, get_or}
use Rattle.std.specs.declared.cmp.Ordering.TheVariants.{Less}
use Rattle.std.specs.FinMap.{put}
use Rattle.std.specs.FinSet.{FinSet, contains, items}
use Rattle.hm_tree.specs.Names.{Name, name_cmp}

-- each name of a list once, in its place
abbrev pub placed : List Name → List (Name × Unit {0})
placed [] = []
placed (k ∷ names) = put name_cmp k tt (placed names)

unfoldable pub ascending : FinSet name_cmp → List Name
ascending names = map (λ e. e.0) (placed (items names))

-- the names before a place are less than a name
pub record ArePassed (names : List Name) (at : ℕ) (name : Name) : Type 0 where
  pub within : at ≤ length names
  pub less : (j : ℕ) (d : Name) → j < at → name_cmp (get_or names j d) name ≡ Less

-- the names of a list that are in a set, and those that aren't
pub record AreParted (names : FinSet name_cmp) (all inside outside : List Name) : Type 0 where
  pub inside_is : inside ≡ filter (λ k. contains names k) all
  pub outside_is : outside ≡ filter (λ k. not (contains names k)) all

-- the names of a set that aren't in another one
abbrev pub new_names : FinSet name_cmp → FinSet name_cmp → List Name
new_names old set = filter (λ k. not (contains old k)) (ascending set)
