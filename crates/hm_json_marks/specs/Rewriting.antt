-- The two roots of a document, written anew.
use Rattle.std.specs.Prelude.{◌≡◌, ℕ, List, Some}
use Rattle.hm_tree.specs.Nodes.{Tree}
use Rattle.hm_marks.specs.Writing.{AreWrittenAnew}
use Rattle.serde_json.specs.Data.{Data, object, Members, put}
use Rattle.serde_json.specs.Find.{get_member}
use Rattle.hm_json_nodes.specs.Nodes.{Contents, json, filled, spelled}
use Rattle.hm_json_marks.specs.Roots.{bar_key, other_key, root_at}
use Rattle.hm_json_marks.specs.Files.{IsRoot}
use Rattle.hm_json_marks.specs.Writing.{HasMembers, with_roots}

-- a root with these members, in which this stands
abbrev pub root_of : Members → Contents → Data
root_of ms c = object (filled (spelled c) ms)

-- among members there is a root
pub record HasRootAt (k : List ℕ) (roots : Members) : Type 0 where
  pub node : Data
  pub at : get_member k roots ≡ Some node
  pub root : IsRoot node

-- what stands in a root was written anew for a tree
pub record IsRootWritten (k : List ℕ) (t : Tree) (d : Data) (r : IsRoot d) (old new : Members) : Type 0 where
  pub contents : Contents
  pub anew : AreWrittenAnew json r.contents t contents
  pub is : new ≡ put k (root_of r.members contents) old

abbrev pub IsRootAnew : List ℕ → Tree → Members → Members → Type 0
IsRootAnew k t old new = (d : Data) (r : IsRoot d) → get_member k old ≡ Some d → IsRootWritten k t d r old new

-- and then in another
pub record AreWritten (bar_tree other_tree : Tree) (bar_node other_node : Data) (bar : IsRoot bar_node) (other : IsRoot other_node) (old new : Members) : Type 0 where
  pub between : Members
  pub bar_written : IsRootWritten bar_key bar_tree bar_node bar old between
  pub other_written : IsRootWritten other_key other_tree other_node other between new

abbrev pub AreBothWritten : Tree → Tree → Members → Members → Type 0
AreBothWritten bar_tree other_tree old new =
    (bar_node other_node : Data) (bar : IsRoot bar_node) (other : IsRoot other_node) → get_member bar_key old ≡ Some bar_node → get_member other_key old ≡ Some other_node
    → AreWritten bar_tree other_tree bar_node other_node bar other old new

-- a document with both roots
pub record HasBothRoots (file : Data) : Type 0 where
  pub members : HasMembers file
  pub bar_node : Data
  pub other_node : Data
  pub bar_is : root_at bar_key file ≡ Some bar_node
  pub other_is : root_at other_key file ≡ Some other_node
  pub bar : IsRoot bar_node
  pub other : IsRoot other_node

-- what stands in its two roots was written anew for trees
pub record AreRootsWritten (file : Data) (h : HasBothRoots file) (bar_tree other_tree : Tree) (new : Data) : Type 0 where
  pub bar : Contents
  pub other : Contents
  pub bar_anew : AreWrittenAnew json h.bar.contents bar_tree bar
  pub other_anew : AreWrittenAnew json h.other.contents other_tree other
  pub is : new ≡ with_roots h.members.file h.members.roots (root_of h.bar.members bar) (root_of h.other.members other)
