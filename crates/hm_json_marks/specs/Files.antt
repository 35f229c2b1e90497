-- What bookmark files of JSON are read as, or why they are none.
use Rattle.std.specs.Prelude.{◌≡◌, ℕ, true, List, Some, None, Result, Ok, Err, IsUtf8}
use Rattle.std.specs.Str.Lossy.{utf8_valid_len}
use Rattle.hm_tree.specs.Nodes.{Tree}
use Rattle.hm_marks_schema.specs.Bookmarks.{AreBookmarks}
use Rattle.hm_marks_schema.specs.Nesting.{marks_over}
use Rattle.serde_json.specs.Data.{Data, Items, Members}
use Rattle.hm_json_nodes.specs.Nodes.{is_folder, Contents, json}
use Rattle.hm_json_nodes.specs.Anew.{IsFolderWith}
use Rattle.hm_format.specs.declared.fault.FormatFault.{FormatFault}
use Rattle.hm_format.specs.declared.fault.FormatFault.TheVariants.{BadOption, NotUtf8, BadItem, NoKey, TooDeep, Outside, Memory}
use Rattle.hm_json_marks.specs.Roots.{HasRoots, IsBadItem}

-- a root is a folder, of which these are the members, and these the children, with what stands in it
pub record IsRoot (d : Data) : Type 0 where
  pub kind : is_folder d ≡ true
  pub members : Members
  pub children : Items
  pub contents : Contents
  pub folder : IsFolderWith members children contents d

-- a file with the two folders
pub record IsFile (bytes : List ℕ) : Type 0 where
  pub bar_node : Data
  pub other_node : Data
  pub roots : HasRoots bytes bar_node other_node
  pub bar : IsRoot bar_node
  pub other : IsRoot other_node

-- and the tree of what stands in them
pub record IsBookmarkFile (bytes : List ℕ) (t : Tree) : Type 0 where
  pub file : IsFile bytes
  pub tree : AreBookmarks json file.bar.contents file.other.contents t

-- a file whose tree is over a limit, and by how much it is
pub record IsTooDeep (bytes : List ℕ) (d : ℕ) : Type 0 where
  pub tree : Tree
  pub book : IsBookmarkFile bytes tree
  pub over : marks_over tree ≡ Some d

abbrev pub JsonReads : List ℕ → Result Tree FormatFault → Type 0
JsonReads bytes (Ok tree) = IsUtf8 bytes × IsBookmarkFile bytes tree × (marks_over tree ≡ None)
JsonReads bytes (Err (NotUtf8 at)) = ¬ (IsUtf8 bytes) × (at ≡ utf8_valid_len bytes)
JsonReads bytes (Err (BadItem number)) = IsUtf8 bytes × IsBadItem bytes number
JsonReads bytes (Err (TooDeep d)) = IsUtf8 bytes × IsTooDeep bytes d
JsonReads bytes (Err (BadOption key)) = ⊥
JsonReads bytes (Err (NoKey number)) = ⊥
JsonReads bytes (Err (Outside path)) = ⊥
JsonReads bytes (Err Memory) = ⊥
