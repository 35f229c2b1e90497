-- What is to stand in a folder of bookmarks that is written anew: its items, and the separators that stay. Which items survive,
-- and which are new, is told in hm_book_items: an item survives where the tree has one at its key and its place.
use Rattle.std.specs.Prelude.{List, [], ◌∷◌, ◌++◌, map, length, slice_get}
use Rattle.hm_tree.specs.Names.{Name, name_cmp}
use Rattle.hm_tree.specs.Nodes.{Tree}
use Rattle.hm_book_items.specs.Items.{of_key, below_key, survivor, added, NewItem as NewItemOf}
use Rattle.hm_book_items.specs.ItemTrees.{Lists}
use Rattle.hm_marks.specs.Contents.{Contents, nothing, link, folder, separator, Item, a_link, a_folder}
use Rattle.hm_marks.specs.Layouts.{Layout, items_of}

-- an item of the new file: its key, what stood of it in the old file if it survives, and what it is to show
abbrev pub NewItem : (L F S : Type 0) → Type 0
NewItem L F S = NewItemOf name_cmp (Item L F S) Tree

-- an item, or a separator that stays
pub data Piece (L F S : Type 0) : Type 0 where
  an_item : NewItem L F S → Piece L F S
  a_separator : S → Piece L F S

-- the items among pieces
abbrev pub new_items : {L F S : Type 0} → List (Piece L F S) → List (NewItem L F S)
new_items [] = []
new_items (an_item x ∷ ps) = x ∷ new_items ps
new_items (a_separator s ∷ ps) = new_items ps

module _ {L F S : Type 0} (y : Layout L F) where
  -- an item that stood behind others, if it survives
  abbrev pub surviving : Lists → List (Name × Item L F S) → Name × Item L F S → List (Piece L F S)
  surviving lists before x = map an_item (survivor name_cmp x (slice_get (below_key name_cmp x.0 lists) (length (of_key name_cmp x.0 before))))

  -- of what stood behind some items, those that survive, and the separators, in their order
  abbrev pub staying : Lists → List (Name × Item L F S) → Contents L F S → List (Piece L F S)
  staying lists before nothing = []
  staying lists before (link l rest) = surviving lists before (y.link_key l, a_link l) ++ staying lists (before ++ (y.link_key l, a_link l) ∷ []) rest
  staying lists before (folder f inside rest) =
      surviving lists before (y.folder_key f, a_folder f inside) ++ staying lists (before ++ (y.folder_key f, a_folder f inside) ∷ []) rest
  staying lists before (separator s rest) = a_separator s ∷ staying lists before rest

  -- what stays of a folder, and the new items behind that
  abbrev pub pieces : Lists → Contents L F S → List (Piece L F S)
  pieces lists old = staying lists [] old ++ map an_item (added name_cmp (items_of y old) lists)
