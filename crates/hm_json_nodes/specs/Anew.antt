-- Nodes that are written anew for the tree of a folder.
use Rattle.std.specs.Prelude.{◌≡◌, List, [], ◌∷◌, ◌++◌, Option, Some, None, map}
use Rattle.hm_tree.specs.Names.{Name}
use Rattle.hm_tree.specs.Nodes.{Tree}
use Rattle.hm_marks.specs.Contents.{nothing, link, folder, Item, a_link, a_folder}
use Rattle.hm_marks.specs.Pieces as marks
use Rattle.hm_marks.specs.Pieces.{an_item}
use Rattle.hm_marks.specs.Writing.{AreMade, AreWrittenAnew}
use Rattle.serde_json.specs.Data.{Data, object, Items, no_items, item, Members}
use Rattle.serde_json.specs.View.{view}
use Rattle.serde_json.specs.declared.value.Value.{Value}
use Rattle.hm_json_nodes.specs.Nodes.{children_of, Contents, AreNodes, json, filled, spelled}

abbrev pub OldItem : Type 0
OldItem = Item Members Members ⊥

abbrev pub Piece : Type 0
Piece = marks.Piece Members Members ⊥

-- a value is the node of an item, and the value that stood in the file is, if one did
abbrev pub IsNodeOf : Data → OldItem → Type 0
IsNodeOf d (a_link ms) = AreNodes (item d no_items) (link ms nothing)
IsNodeOf d (a_folder ms inside) = AreNodes (item d no_items) (folder ms inside nothing)

abbrev pub IsOld : Option Value → Option OldItem → Type 0
IsOld None None = Unit {0}
IsOld None (Some i) = ⊥
IsOld (Some v) None = ⊥
IsOld (Some v) (Some i) = IsNodeOf (view v) i

-- the key of an item, and the items of a folder by their keys
abbrev pub item_key : OldItem → Name
item_key (a_link ms) = json.link_key ms
item_key (a_folder ms inside) = json.folder_key ms

abbrev pub item_entry : OldItem → Name × OldItem
item_entry i = (item_key i, i)

-- values in front of items
abbrev pub onto : List Data → Items → Items
onto [] ds = ds
onto (e ∷ es) ds = item e (onto es ds)

-- values are the nodes of what is made of some pieces, whatever is made of others behind them
abbrev pub Spell : List Piece → List Data → Type 0
Spell ps ds = (qs : List Piece) (rest : Contents) → AreMade json qs rest → (all : Contents) × (AreMade json (ps ++ qs) all × (spelled all ≡ onto ds (spelled rest)))

-- a value is the node of the item with a key that is to show a tree
abbrev pub IsNodeAnew : Name → Option OldItem → Tree → Data → Type 0
IsNodeAnew key old t d = Spell (an_item (key, old, t) ∷ []) (d ∷ [])

-- the nodes of what stood in a folder, written anew for a tree
pub record AreSpelledAnew (old : Contents) (t : Tree) (items : Items) : Type 0 where
  pub contents : Contents
  pub anew : AreWrittenAnew json old t contents
  pub items_are : items ≡ spelled contents

-- a folder's node, by its members and by its children, which are the nodes of what stands in it
pub record IsFolderWith (members : Members) (children : Items) (c : Contents) (d : Data) : Type 0 where
  pub is : d ≡ object members
  pub children_are : children_of (object members) ≡ Some children
  pub nodes : AreNodes children c

-- what stood in the folder was written anew for a tree, and its other members stay
pub record IsFolderAnew (members : Members) (old : Contents) (t : Tree) (d : Data) : Type 0 where
  pub children : Items
  pub anew : AreSpelledAnew old t children
  pub is : d ≡ object (filled children members)

-- the nodes of these pieces were put behind others
pub record Adds (old new : List Value) (pieces : List Piece) : Type 0 where
  pub added : List Data
  pub are : map view new ≡ map view old ++ added
  pub spell : Spell pieces added
