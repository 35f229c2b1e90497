-- What is known of an item that is sought among those that the tree of a folder has below a key.
use Rattle.std.specs.Prelude.{◌≡◌}
use Rattle.hm_tree.specs.Names.{Name}
use Rattle.hm_tree.specs.Nodes.{Tree}
use Rattle.hm_marks.specs.Among.{IsAmong}
use Rattle.hm_marks.specs.FolderTrees.{IsFolderTree}
use Rattle.hm_marks_schema.specs.Members.{IsAt}
use Rattle.hm_marks_schema.specs.declared.sought.FolderAt.{FolderAt}
use Rattle.hm_marks_schema.specs.declared.sought.FolderAt.TheVariants as folder
use Rattle.hm_marks_schema.specs.declared.sought.ItemsAt.{ItemsAt}
use Rattle.hm_marks_schema.specs.declared.sought.ItemsAt.TheVariants as items

-- none, or this one alone; of several nothing is said
abbrev pub AreItemsAt : Name → Tree → ItemsAt → Type 0
AreItemsAt k whole items.Nothing = (t : Tree) → IsAmong k whole t → ⊥
AreItemsAt k whole (items.One x) = IsAt 3 x.now × ((t : Tree) → IsAmong k whole t → t ≡ x.now)
AreItemsAt k whole items.Several = Unit {0}

-- no folder, or one alone, in which is to stand what has this tree; of several items nothing is said
abbrev pub IsFolderAt : Name → Tree → FolderAt → Type 0
IsFolderAt k whole folder.Nowhere = (u t : Tree) → IsFolderTree u t → IsAmong k whole t → ⊥
IsFolderAt k whole (folder.Only v) = IsAt 1 v.now × ((u t : Tree) → IsFolderTree u t → IsAmong k whole t → u ≡ v.now)
IsFolderAt k whole folder.Unknown = Unit {0}
