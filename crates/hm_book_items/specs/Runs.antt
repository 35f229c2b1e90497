-- Items that stand in the order of their keys, as lists: those of a key are a run.
use Rattle.std.specs.Prelude.{ℕ, cond, List, [], ◌∷◌}
use Rattle.std.specs.Ordering.{eq_by_cmp}
use Rattle.hm_tree.specs.Names.{Name, name_cmp}
use Rattle.hm_tree.specs.Nodes.{Tree}
use Rattle.hm_tree_parts.specs.Lists.{HasItems}
use Rattle.hm_book_items.specs.ItemTrees.{AreLists, list_depth}

-- the list of a key that stands first; the empty one where another key stands there
abbrev pub list_first : {X : Type 0} → Name → List (Name × List X) → List X
list_first k [] = []
list_first k (l ∷ ls) = cond (eq_by_cmp name_cmp k l.0) l.1 []

-- the lists without it
abbrev pub lists_behind : {X : Type 0} → Name → List (Name × List X) → List (Name × List X)
lists_behind k [] = []
lists_behind k (l ∷ ls) = cond (eq_by_cmp name_cmp k l.0) ls (l ∷ ls)

-- an item before lists: where its key stands first, it is an item more of that list
abbrev pub with_item : {X : Type 0} → Name × X → List (Name × List X) → List (Name × List X)
with_item x ls = (x.0, x.1 ∷ list_first x.0 ls) ∷ lists_behind x.0 ls

-- each run of items with one key, as a list
abbrev pub runs : {X : Type 0} → List (Name × X) → List (Name × List X)
runs [] = []
runs (x ∷ xs) = with_item x (runs xs)

-- the list of a key was taken off edges, where it stood first
abbrev pub IsListTaken : Name → List (Name × Tree) → List (Name × Tree) → Tree → Type 0
IsListTaken k old new list =
    (ls : List (Name × List Tree)) → AreLists old ls → HasItems list (list_first k ls) × AreLists new (lists_behind k ls)

-- the depth of the list that stands first
abbrev pub first_depth : {X : Type 0} → (X → ℕ) → List (Name × List X) → ℕ
first_depth deep [] = 0
first_depth deep (l ∷ ls) = list_depth deep l.1
