-- Which bytes are files, of any depth, and which are files that are read: those of a depth of at most 1,000.
use Rattle.std.specs.Prelude.{◌≡◌, ℕ, ◌≤◌, List}
use Rattle.hm_tree.specs.Nodes.{Tree, depth}
use Rattle.hm_tree.specs.Archives.{Archive, depth_here}
use Rattle.hm_tree_text.specs.Text.{tree_text, archive_text}

-- the bytes are the file of some tree, and that of some archive
abbrev pub IsTreeFile : List ℕ → Type 0
IsTreeFile bytes = (t : Tree) × (bytes ≡ tree_text t)

abbrev pub IsArchiveFile : List ℕ → Type 0
IsArchiveFile bytes = (o : Archive) × (bytes ≡ archive_text o)

-- the bytes are the file of this tree, which is read
pub record IsTreeText (t : Tree) (bytes : List ℕ) : Type 0 where
  pub spelled : bytes ≡ tree_text t
  pub shallow : depth t ≤ 1000

-- the same of an archive, in whose depth a mark counts as a tree without edges
pub record IsArchiveText (o : Archive) (bytes : List ℕ) : Type 0 where
  pub spelled : bytes ≡ archive_text o
  pub shallow : depth_here o ≤ 1000
