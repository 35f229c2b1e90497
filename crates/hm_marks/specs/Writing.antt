-- How a folder of bookmarks is written anew for a tree.
use Rattle.std.specs.Prelude.{cond, List, [], ◌∷◌, Option, Some, None}
use Rattle.std.specs.Str.{bytes_eq}
use Rattle.hm_tree.specs.Names.{Name, name_cmp}
use Rattle.hm_tree.specs.Classes.{IsClean}
use Rattle.hm_tree.specs.Nodes.{Tree, edges}
use Rattle.hm_book_items.specs.Items.{IsTree}
use Rattle.hm_book_items.specs.ItemTrees.{Lists, AreLists}
use Rattle.hm_marks.specs.Contents.{Contents, nothing, link, folder, separator, Item, a_link, a_folder}
use Rattle.hm_marks.specs.Layouts.{Layout}
use Rattle.hm_marks.specs.FolderTrees.{IsLinkTree, IsFolderTree}
use Rattle.hm_marks.specs.Pieces.{NewItem, Piece, an_item, a_separator, pieces}

-- a link from before with an address: it stays as it is where it has this one
abbrev pub addressed : {L F : Type 0} → Layout L F → L → Name → L
addressed y l n = cond (bytes_eq (y.address l) n) l (y.readdressed l n)

module _ {L F S : Type 0} (y : Layout L F) where
  -- the link with a key and an address: a new one where no item survives, or a folder does
  abbrev pub link_for : Name → Option (Item L F S) → Name → L
  link_for k None n = y.new_link k n
  link_for k (Some (a_link l)) n = addressed y l n
  link_for k (Some (a_folder f inside)) n = y.new_link k n

  -- the folder with a key: a new one where no item survives, or a link does
  abbrev pub folder_for : Name → Option (Item L F S) → F
  folder_for k None = y.new_folder k
  folder_for k (Some (a_link l)) = y.new_folder k
  folder_for k (Some (a_folder f inside)) = f

  -- what stood in the folder that survives
  abbrev pub inside_of : Option (Item L F S) → Contents L F S
  inside_of None = nothing
  inside_of (Some (a_link l)) = nothing
  inside_of (Some (a_folder f inside)) = inside

-- what stands in a folder is made of these pieces: an item as its tree says, a link or a folder, and what stands in this in the
-- same way
pub data AreMade {L F S : Type 0} (y : Layout L F) : List (Piece L F S) → Contents L F S → Type 0 where
  made_nothing : AreMade y [] nothing
  made_link : {x : NewItem L F S} {n : Name} {ps : List (Piece L F S)} {rest : Contents L F S} → IsClean x.0 → IsClean n → IsLinkTree n x.2 → AreMade y ps rest
      → AreMade y (an_item x ∷ ps) (link (link_for y x.0 x.1 n) rest)
  made_folder : {x : NewItem L F S} {u : Tree} {lists : Lists} {ps : List (Piece L F S)} {inside rest : Contents L F S} → IsClean x.0 → IsFolderTree u x.2
      → AreLists (edges u) lists → IsTree name_cmp lists → AreMade y (pieces y lists (inside_of y x.1)) inside → AreMade y ps rest
      → AreMade y (an_item x ∷ ps) (folder (folder_for y x.0 x.1) inside rest)
  made_separator : {s : S} {ps : List (Piece L F S)} {rest : Contents L F S} → AreMade y ps rest → AreMade y (a_separator s ∷ ps) (separator s rest)

-- what stood in a folder, written anew for a tree
pub record AreWrittenAnew {L F S : Type 0} (y : Layout L F) (old : Contents L F S) (t : Tree) (new : Contents L F S) : Type 0 where
  pub lists : Lists
  pub below : AreLists (edges t) lists
  pub tree : IsTree name_cmp lists
  pub made : AreMade y (pieces y lists old) new
