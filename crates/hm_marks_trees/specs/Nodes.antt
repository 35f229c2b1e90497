-- Links and folders, by what a tree shows of them.
use Rattle.std.specs.Prelude.{◌≡◌, List, [], ◌∷◌, map}
use Rattle.std.specs.List.{AllZip}
use Rattle.hm_tree.specs.Names.{Name}
use Rattle.hm_tree.specs.Nodes.{Tree}
use Rattle.hm_marks.specs.Contents.{Contents, nothing, link, folder, separator, Item, a_link, a_folder}
use Rattle.hm_marks.specs.Layouts.{Layout}
use Rattle.hm_marks.specs.FolderTrees.{IsLinkTree, IsFolderTree, IsContentsTree}
use Rattle.hm_marks_trees.specs.declared.node.Node.{Node, fold-Node}
use Rattle.hm_marks_trees.specs.declared.node.Node.TheOpen.{Node-F}

-- links that are a key and an address, and folders that are a key, without separators
abbrev pub Plain : Type 0
Plain = Contents (Name × Name) Name ⊥

-- and these as items
abbrev pub PlainItem : Type 0
PlainItem = Item (Name × Name) Name ⊥

-- they are read and made as they are
abbrev pub plain : Layout (Name × Name) Name
plain = record {
  link_key = λ l. l.0;
  address = λ l. l.1;
  folder_key = λ k. k;
  new_link = λ k n. (k, n);
  readdressed = λ l n. (l.0, n);
  new_folder = λ k. k;
}

-- an item in front of others
abbrev pub in_front : PlainItem → Plain → Plain
in_front (a_link l) rest = link l rest
in_front (a_folder k inside) rest = folder k inside rest

-- items one behind another
abbrev pub contents_of : List PlainItem → Plain
contents_of [] = nothing
contents_of (i ∷ is) = in_front i (contents_of is)

-- a node, where those in it are seen
abbrev pub view_step : Node-F PlainItem → PlainItem
view_step (Node-F.Link k n) = a_link (k, n)
view_step (Node-F.Folder k inside) = a_folder k (contents_of inside.items)

-- what is to be seen of a node: a link or a folder, and in it the same
abbrev pub view : Node → PlainItem
view = fold-Node PlainItem view_step

-- what stands in a folder of these nodes
abbrev pub contents : List Node → Plain
contents nodes = contents_of (map view nodes)

-- the key and the tree of an item
abbrev pub IsItemOf : PlainItem → Name × Tree → Type 0
IsItemOf (a_link l) x = (x.0 ≡ l.0) × IsLinkTree l.1 x.1
IsItemOf (a_folder k inside) x = (x.0 ≡ k) × ((u : Tree) × (IsFolderTree u x.1 × IsContentsTree plain inside u))

-- the keys and the trees of nodes
abbrev pub AreItemsOf : List Node → List (Name × Tree) → Type 0
AreItemsOf nodes items = AllZip (λ (n : Node) (x : Name × Tree). IsItemOf (view n) x) nodes items

-- ---- what other formats keep

-- of what a format keeps, what a tree shows: the key and address of a link, and the key of a folder
abbrev pub seen : {L F S : Type 0} → Layout L F → Contents L F S → Plain
seen y nothing = nothing
seen y (link l rest) = link (y.link_key l, y.address l) (seen y rest)
seen y (folder f inside rest) = folder (y.folder_key f) (seen y inside) (seen y rest)
seen y (separator s rest) = seen y rest
