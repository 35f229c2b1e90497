-- What the tree of an item is to be.
use Rattle.hm_tree.specs.Classes.{IsClean}
use Rattle.hm_tree.specs.Nodes.{Tree}
use Rattle.hm_marks.specs.FolderTrees.{IsLinkTree, IsFolderTree}
use Rattle.hm_marks_schema.specs.Members.{IsAt}
use Rattle.hm_marks_schema.specs.declared.parts.ItemTree.{ItemTree}
use Rattle.hm_marks_schema.specs.declared.parts.ItemTree.TheVariants as item

-- a folder in which is to stand what has this tree, or a link to this address
abbrev pub IsItemTree : Tree → ItemTree → Type 0
IsItemTree t (item.Folder u) = IsFolderTree u.now t × IsAt 1 u.now
IsItemTree t (item.Link n) = IsLinkTree n.now t × IsClean n.now
