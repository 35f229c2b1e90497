-- How a format keeps links and folders.
use Rattle.std.specs.Prelude.{◌≡◌, List, [], ◌∷◌}
use Rattle.hm_tree.specs.Names.{Name}
use Rattle.hm_tree.specs.Classes.{IsClean}
use Rattle.hm_marks.specs.Contents.{Contents, nothing, link, folder, separator, Item, a_link, a_folder}

-- how links and folders are read, and how new ones are made; the key of either is its title
pub record Layout (L F : Type 0) : Type 0 where
  pub link_key : L → Name
  pub address : L → Name
  pub folder_key : F → Name
  -- a link by its key and its address, and a link with another address
  pub new_link : Name → Name → L
  pub readdressed : L → Name → L
  -- a folder by its key
  pub new_folder : Name → F

-- what is made of links and folders is read as it is to be; IsLink and IsFolder are what may stand in a file, and AreAlike are
-- links that are equal but for their addresses
pub record IsLayout {L F : Type 0} (y : Layout L F) (IsLink : L → Type 0) (IsFolder : F → Type 0) (AreAlike : L → L → Type 0) : Type 0 where
  pub new_key : (k n : Name) → IsClean k → IsClean n → y.link_key (y.new_link k n) ≡ k
  pub new_address : (k n : Name) → IsClean k → IsClean n → y.address (y.new_link k n) ≡ n
  pub new_stands : (k n : Name) → IsClean k → IsClean n → IsLink (y.new_link k n)
  pub same_key : (l : L) (n : Name) → IsLink l → IsClean n → y.link_key (y.readdressed l n) ≡ y.link_key l
  pub other_address : (l : L) (n : Name) → IsLink l → IsClean n → y.address (y.readdressed l n) ≡ n
  pub still_stands : (l : L) (n : Name) → IsLink l → IsClean n → IsLink (y.readdressed l n)
  pub still_alike : (l : L) (n : Name) → IsLink l → IsClean n → AreAlike l (y.readdressed l n)
  pub new_folder_key : (k : Name) → IsClean k → y.folder_key (y.new_folder k) ≡ k
  pub new_folder_stands : (k : Name) → IsClean k → IsFolder (y.new_folder k)

-- the items directly in a folder, each with its key
abbrev pub items_of : {L F S : Type 0} → Layout L F → Contents L F S → List (Name × Item L F S)
items_of y nothing = []
items_of y (link l rest) = (y.link_key l, a_link l) ∷ items_of y rest
items_of y (folder f inside rest) = (y.folder_key f, a_folder f inside) ∷ items_of y rest
items_of y (separator s rest) = items_of y rest

module _ {L F S : Type 0} (IsLink : L → Type 0) (IsFolder : F → Type 0) (IsSeparator : S → Type 0) where
  -- all that stands in a folder, at each depth, may stand in a file
  abbrev pub AreSound : Contents L F S → Type 0
  AreSound nothing = Unit {0}
  AreSound (link l rest) = IsLink l × AreSound rest
  AreSound (folder f inside rest) = IsFolder f × AreSound inside × AreSound rest
  AreSound (separator s rest) = IsSeparator s × AreSound rest

  -- an item may stand in a file, and has this key
  abbrev pub IsSoundAt : Layout L F → Name → Item L F S → Type 0
  IsSoundAt y k (a_link l) = (y.link_key l ≡ k) × IsLink l
  IsSoundAt y k (a_folder f inside) = (y.folder_key f ≡ k) × IsFolder f × AreSound inside
