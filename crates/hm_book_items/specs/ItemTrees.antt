-- The tree of a file of items.
use Rattle.std.specs.Prelude.{◌≡◌, ℕ, ◌+◌, ◌<◌, ◌≤◌, max, List, [], ◌∷◌, map, All}
use Rattle.std.specs.List.{AllZip}
use denote.Param.Weighed.{most}
use Rattle.hm_tree.specs.Names.{Name, name_cmp}
use Rattle.hm_tree.specs.Nodes.{Tree, depth, edges, empty, node}
use Rattle.hm_tree_parts.specs.Lists.{HasItems, IsList, head, tail}
use Rattle.hm_book_items.specs.Items.{IsGrouped}

-- lists of items, each below its key
abbrev pub Lists : Type 0
Lists = List (Name × List Tree)

-- each name has a list with these items
abbrev pub AreLists : List (Name × Tree) → List (Name × List Tree) → Type 0
AreLists es lists = AllZip (λ e l. (e.0 ≡ l.0) × HasItems e.1 l.1) es lists

-- below each name stands a list
abbrev pub HasLists : Tree → Type 0
HasLists t = All (λ (e : Name × Tree). IsList e.1) (edges t)

-- a tree has below each key the list of the items with it, in their order
pub record IsItemTree (items : List (Name × Tree)) (t : Tree) : Type 0 where
  pub lists : List (Name × List Tree)
  pub grouped : IsGrouped name_cmp items lists
  pub below : AreLists (edges t) lists

-- ---- the trees with given items

-- the list of these items
abbrev pub list_tree : List Tree → Tree
list_tree [] = empty
list_tree (x ∷ xs) = node ((head, x) ∷ (tail, list_tree xs) ∷ [])

abbrev pub list_edge : Name × List Tree → Name × Tree
list_edge l = (l.0, list_tree l.1)

-- the tree that has these lists below their names
abbrev pub tree_of_lists : List (Name × List Tree) → Tree
tree_of_lists ls = node (map list_edge ls)

-- ---- depth

-- the depth of the list of items that are so deep: two edges lead from it, to its first item and to the list of the others
abbrev pub list_depth : {X : Type 0} → (X → ℕ) → List X → ℕ
list_depth deep [] = 0
list_depth deep (x ∷ xs) = max (deep x) (list_depth deep xs) + 1

-- the depth of a tree that has these lists below its names
abbrev pub lists_depth : {X : Type 0} → (X → ℕ) → List (Name × List X) → ℕ
lists_depth deep ls = most (λ l. list_depth deep l.1 + 1) ls

-- so deep is a tree that has below each key the list of the items with it
abbrev pub IsDepthOfLists : {X : Type 0} → (X → ℕ) → List (Name × X) → ℕ → Type 0
IsDepthOfLists {X} deep items found = (lists : List (Name × List X)) → IsGrouped name_cmp items lists → found ≡ lists_depth deep lists

-- the tree of these items is deeper than allowed, and so deep
pub record IsTooDeep (items : List (Name × Tree)) (deepest found : ℕ) : Type 0 where
  pub tree : Tree
  pub is : IsItemTree items tree
  pub depth_is : found ≡ depth tree
  pub over : deepest < found

-- the tree of these items, no deeper than allowed
pub record IsShallow (items : List (Name × Tree)) (deepest : ℕ) (t : Tree) : Type 0 where
  pub is : IsItemTree items t
  pub within : depth t ≤ deepest
