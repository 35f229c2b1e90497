-- The tree of a whole file of links and folders, how many folders nest in it and how deep it is.
use Rattle.std.specs.Prelude.{◌≡◌, ℕ, ◌+◌, IsUtf8, List, Option, None}
use Rattle.std.specs.List.{AllZip}
use Rattle.hm_tree.specs.Names.{Name}
use Rattle.hm_tree.specs.Nodes.{Tree, depth}
use Rattle.hm_marks.specs.Contents.{a_link, a_folder}
use Rattle.hm_marks.specs.FolderTrees.{IsContentsTree}
use Rattle.hm_marks_schema.specs.Bookmarks.{AreBookmarks, HaveUtf8Texts}
use Rattle.hm_marks_schema.specs.Nesting.{nesting, marks_over}
use Rattle.hm_marks_trees.specs.declared.node.Node.{Node}
use Rattle.hm_marks_trees.specs.Nodes.{Plain, PlainItem, plain, view, IsItemOf}

-- the tree of what stands in the two folders, within the limits
pub record AreShallow (bar other : Plain) (t : Tree) : Type 0 where
  pub is : AreBookmarks plain bar other t
  pub within : marks_over t ≡ None

-- there is a tree of what stands in the two, and so much of it is over the limits, if anything
pub record AreOver (bar other : Plain) (over : Option ℕ) : Type 0 where
  pub tree : Tree
  pub is : AreBookmarks plain bar other tree
  pub over_is : marks_over tree ≡ over

-- ---- items that aren't built

-- into how many folders an item leads at the most
abbrev pub item_nesting : PlainItem → ℕ
item_nesting (a_link l) = 0
item_nesting (a_folder k inside) = 1 + nesting inside

-- its keys and addresses are UTF-8
abbrev pub HasUtf8Texts : PlainItem → Type 0
HasUtf8Texts (a_link l) = IsUtf8 l.0 × IsUtf8 l.1
HasUtf8Texts (a_folder k inside) = IsUtf8 k × HaveUtf8Texts plain inside

-- its key, and how deep its tree is
abbrev pub HasDepthOf : PlainItem → Name × ℕ → Type 0
HasDepthOf i d = (x : Name × Tree) → IsItemOf i x → d ≡ (x.0, depth x.1)

-- the keys of nodes, and how deep their trees are
abbrev pub AreDepthsOf : List Node → List (Name × ℕ) → Type 0
AreDepthsOf nodes depths = AllZip (λ (n : Node) (d : Name × ℕ). HasDepthOf (view n) d) nodes depths

-- so deep is the tree of what stands in a folder
abbrev pub IsDepthOf : Plain → ℕ → Type 0
IsDepthOf c found = (t : Tree) → IsContentsTree plain c t → found ≡ depth t
