-- How many paths come and go, and how many entries, which are the children of the root.
use Rattle.std.specs.Prelude.{ℕ, Bool, true, false, ◌&&◌, ◌==◌, nat_lt, List, [], length, map, filter, get_or, count_by}
use Rattle.std.specs.List.{dedup}
use Rattle.std.specs.Ordering.{eq_by_cmp}
use Rattle.hm_tree.specs.Names.{Name, name_cmp}
use Rattle.hm_changes.specs.declared.change.Change.{Change}
use Rattle.hm_changes.specs.declared.change.Turn.{Turn}
use Rattle.hm_changes.specs.declared.change.Turn.TheVariants.{Added, Deleted}

abbrev pub same_turn : Turn → Turn → Bool
same_turn Added Added = true
same_turn Added Deleted = false
same_turn Deleted Added = false
same_turn Deleted Deleted = true

abbrev pub is_entry : Change → Bool
is_entry c = length c.path == 1

-- how many paths come, or go
abbrev pub number_of : Turn → List Change → ℕ
number_of turn changes = count_by (λ c. same_turn turn c.turn) changes

-- how many entries come, or go
abbrev pub entries_of : Turn → List Change → ℕ
entries_of turn changes = count_by (λ c. is_entry c && same_turn turn c.turn) changes

-- the entries below which a path comes or goes, for each such path
abbrev pub names_changed : List Change → List Name
names_changed changes = map (λ c. get_or c.path 0 []) (filter (λ c. nat_lt 1 (length c.path)) changes)

-- how many they are, of changes in the order of paths, where those below one entry stand in a row
abbrev pub entries_changed : List Change → ℕ
entries_changed changes = length (dedup (eq_by_cmp name_cmp) (names_changed changes))
