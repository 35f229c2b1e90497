-- The nodes of a bookmark file of JSON. A link is an object with the type `url`, a folder one with the type `folder` and an
-- array of nodes as its children; both have a name. Other members are hidden.
use Rattle.std.specs.Prelude.{◌≡◌, ℕ, Bool, true, ◌&&◌, List, [], Option, Some, is_some, unwrap_or, option_and_then, codes}
use Rattle.std.specs.Str.{bytes_eq}
use Rattle.hm_tree.specs.Names.{Name}
use Rattle.hm_tree.specs.Cleaned.{cleaned}
use Rattle.hm_marks.specs.Contents as marks
use Rattle.hm_marks.specs.Contents.{nothing, link, folder, separator}
use Rattle.hm_marks.specs.Layouts.{Layout, AreSound}
use Rattle.serde_json.specs.Data.{Data, string, array, object, Items, no_items, item, Members, no_members, member, put}
use Rattle.serde_json.specs.Find.{get, as_str, as_array}

abbrev pub type_key : List ℕ
type_key = codes "type"

abbrev pub name_key : List ℕ
name_key = codes "name"

abbrev pub url_key : List ℕ
url_key = codes "url"

abbrev pub children_key : List ℕ
children_key = codes "children"

abbrev pub folder_type : List ℕ
folder_type = codes "folder"

-- ---- what a node is

-- the text at a key, and what is at `children` where it is an array
abbrev pub text_at : List ℕ → Data → Option (List ℕ)
text_at k d = option_and_then as_str (get k d)

abbrev pub children_of : Data → Option Items
children_of d = option_and_then as_array (get children_key d)

abbrev pub has_type : List ℕ → Data → Bool
has_type word d = bytes_eq (unwrap_or (text_at type_key d) []) word

abbrev pub is_link : Data → Bool
is_link d = has_type url_key d && (is_some (text_at name_key d) && is_some (text_at url_key d))

abbrev pub is_folder : Data → Bool
is_folder d = has_type folder_type d && (is_some (text_at name_key d) && is_some (children_of d))

-- ---- how nodes show a folder

-- the members of a folder with these children, and with none
abbrev pub filled : Items → Members → Members
filled ds ms = put children_key (array ds) ms

abbrev pub emptied : Members → Members
emptied ms = filled no_items ms

-- a link by its members, and a folder by its members but for what stands in it. There are no separators
abbrev pub Contents : Type 0
Contents = marks.Contents Members Members ⊥

-- these are the nodes of a folder
pub data AreNodes : Items → Contents → Type 0 where
  no_nodes : AreNodes no_items nothing
  a_link_node : {ms : Members} {ds : Items} {rest : Contents} → is_link (object ms) ≡ true → AreNodes ds rest → AreNodes (item (object ms) ds) (link ms rest)
  a_folder_node : {ms : Members} {children ds : Items} {inside rest : Contents} → is_folder (object ms) ≡ true → children_of (object ms) ≡ Some children
      → AreNodes children inside → AreNodes ds rest → AreNodes (item (object ms) ds) (folder (emptied ms) inside rest)

-- a name, or an address
abbrev pub name_at : List ℕ → Members → Name
name_at k ms = cleaned (unwrap_or (text_at k (object ms)) [])

-- how they are read, and what new nodes have
abbrev pub json : Layout Members Members
json = record {
  link_key = name_at name_key;
  address = name_at url_key;
  folder_key = name_at name_key;
  new_link = λ k n. member name_key (string k) (member type_key (string url_key) (member url_key (string n) no_members));
  readdressed = λ ms n. put url_key (string n) ms;
  new_folder = λ k. member children_key (array no_items) (member name_key (string k) (member type_key (string folder_type) no_members));
}

-- ---- what may stand in a file

abbrev pub IsLink : Members → Type 0
IsLink ms = is_link (object ms) ≡ true

-- a folder with nothing in it
pub record IsFolder (ms : Members) : Type 0 where
  pub kind : is_folder (object ms) ≡ true
  pub empty : emptied ms ≡ ms

-- links that are equal but for their addresses: with one address they are equal
abbrev pub AreAlike : Members → Members → Type 0
AreAlike l m = (address : Data) → put url_key address m ≡ put url_key address l

abbrev pub MayStand : Contents → Type 0
MayStand c = AreSound IsLink IsFolder (λ s. Unit {0}) c

-- ---- the nodes that are written of what stands in a folder

abbrev pub spelled : Contents → Items
spelled nothing = no_items
spelled (link ms rest) = item (object ms) (spelled rest)
spelled (folder ms inside rest) = item (object (filled (spelled inside) ms)) (spelled rest)
spelled (separator s rest) = spelled rest
