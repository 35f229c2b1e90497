-- What a tree has of a folder of bookmarks. The folder's own tree has all of it, and where a tree doesn't, one link or one folder
-- shows that, or that there are too few of them.
use Rattle.std.specs.Prelude.{◌≡◌, ◌≤◌, ℕ, List, length, Some, Contains}
use Rattle.hm_tree.specs.Names.{Name}
use Rattle.hm_tree.specs.Nodes.{Tree, below, edges}
use Rattle.hm_tree_parts.specs.Lists.{HasItems}
use Rattle.hm_marks.specs.Contents.{Contents, nothing, link, folder, separator}
use Rattle.hm_marks.specs.Layouts.{Layout, items_of}
use Rattle.hm_marks.specs.FolderTrees.{IsLinkTree, IsFolderTree}

-- a tree is among the items that another one has below a key
pub record IsAmong (k : Name) (whole t : Tree) : Type 0 where
  pub list : Tree
  pub items : List Tree
  pub list_is : below k whole ≡ Some list
  pub has : HasItems list items
  pub there : Contains items t

-- a tree has no more keys than links and folders stand directly in a folder
abbrev pub HasFewKeys : {L F S : Type 0} → Layout L F → Tree → Contents L F S → Type 0
HasFewKeys y whole c = length (edges whole) ≤ length (items_of y c)

-- a tree has, among the items with its key, each link and each folder of what stands in a folder, and the same within each folder
pub data HasEach {L F S : Type 0} (y : Layout L F) : Tree → Contents L F S → Type 0 where
  has_nothing : {whole : Tree} → HasEach y whole nothing
  has_link : {whole t : Tree} {l : L} {rest : Contents L F S} → IsLinkTree (y.address l) t → IsAmong (y.link_key l) whole t → HasEach y whole rest
      → HasEach y whole (link l rest)
  has_folder : {whole u t : Tree} {f : F} {inside rest : Contents L F S} → IsFolderTree u t → IsAmong (y.folder_key f) whole t → HasEach y u inside
      → HasFewKeys y u inside → HasEach y whole rest → HasEach y whole (folder f inside rest)
  past_separator : {whole : Tree} {s : S} {rest : Contents L F S} → HasEach y whole rest → HasEach y whole (separator s rest)

-- a tree has all of what is left of a folder, in which at least so many links and folders have to be left
pub record HasLeft {L F S : Type 0} (y : Layout L F) (whole : Tree) (missing : ℕ) (c : Contents L F S) : Type 0 where
  pub each : HasEach y whole c
  pub enough : missing ≤ length (items_of y c)

-- a tree has all of a folder
abbrev pub HasAll : {L F S : Type 0} → Layout L F → Tree → Contents L F S → Type 0
HasAll y whole c = HasLeft y whole (length (edges whole)) c
