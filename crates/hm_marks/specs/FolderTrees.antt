-- The tree of a folder of bookmarks: below each key the list of the items with it, in their order. A link's tree has its address
-- below `url`, and a folder's has the tree of what stands in it below `folder`. Separators aren't shown.
use Rattle.std.specs.Prelude.{List, [], ◌∷◌, codes}
use Rattle.hm_tree.specs.Names.{Name}
use Rattle.hm_tree.specs.Nodes.{Tree}
use Rattle.hm_tree_parts.specs.Edges.{IsEdge, IsValue}
use Rattle.hm_book_items.specs.ItemTrees.{IsItemTree}
use Rattle.hm_marks.specs.Contents.{Contents, nothing, link, folder, separator}
use Rattle.hm_marks.specs.Layouts.{Layout}

abbrev pub url_name : Name
url_name = codes "url"

abbrev pub folder_name : Name
folder_name = codes "folder"

-- the tree of a link to an address
pub record IsLinkTree (address : Name) (t : Tree) : Type 0 where
  pub value : Tree
  pub below : IsEdge url_name value t
  pub text : IsValue address value

-- the tree of a folder in which stands what has this tree
abbrev pub IsFolderTree : Tree → Tree → Type 0
IsFolderTree inside t = IsEdge folder_name inside t

-- what stands in a folder shows these items, each by its key
pub data ShowItems {L F S : Type 0} (y : Layout L F) : Contents L F S → List (Name × Tree) → Type 0 where
  show_nothing : ShowItems y nothing []
  show_link : {l : L} {rest : Contents L F S} {t : Tree} {items : List (Name × Tree)} → IsLinkTree (y.address l) t → ShowItems y rest items
      → ShowItems y (link l rest) ((y.link_key l, t) ∷ items)
  show_folder : {f : F} {inside rest : Contents L F S} {u t : Tree} {inner items : List (Name × Tree)} → ShowItems y inside inner → IsItemTree inner u
      → IsFolderTree u t → ShowItems y rest items → ShowItems y (folder f inside rest) ((y.folder_key f, t) ∷ items)
  hide_separator : {s : S} {rest : Contents L F S} {items : List (Name × Tree)} → ShowItems y rest items → ShowItems y (separator s rest) items

-- the tree of what stands in a folder
pub record IsContentsTree {L F S : Type 0} (y : Layout L F) (c : Contents L F S) (t : Tree) : Type 0 where
  pub items : List (Name × Tree)
  pub show : ShowItems y c items
  pub tree : IsItemTree items t
