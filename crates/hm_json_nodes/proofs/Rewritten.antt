-- What is written anew for a tree is read as it, and keeps what has to stay.
use Rattle.hm_tree.specs.Nodes.{Tree}
use Rattle.hm_marks.specs.FolderTrees.{IsContentsTree}
use Rattle.hm_marks.specs.Writing.{AreWrittenAnew}
use Rattle.hm_marks.specs.Kept.{Keeps}
use Rattle.hm_marks.proofs.ReadBack.{put_get}
use Rattle.hm_marks.proofs.Sound.{anew_sound}
use Rattle.hm_marks.proofs.KeptContents.{anew_kept}
use Rattle.serde_json.specs.Data.{Items}
use Rattle.hm_json_nodes.specs.Nodes.{json, Contents, AreNodes, IsLink, IsFolder, AreAlike, spelled}
use Rattle.hm_json_nodes.proofs.Layouts.{json_layout}
use Rattle.hm_json_nodes.proofs.Spelled.{spelled_read, nodes_stand}

module _ (ds : Items) (old new : Contents) (t : Tree) (nodes : AreNodes ds old) (is : AreWrittenAnew json old t new) where
  -- the new nodes are read as what is written
  pub read_again : AreNodes (spelled new) new
  read_again = spelled_read new (anew_sound json IsLink IsFolder (λ s. Unit {0}) AreAlike json_layout old t new (nodes_stand ds old nodes) is)

  -- and show the tree
  pub shows_tree : IsContentsTree json new t
  shows_tree = put_get json IsLink IsFolder (λ s. Unit {0}) AreAlike json_layout old t new (nodes_stand ds old nodes) is

  -- a link stays but for its address, a folder but for what stands in it, and those that stay do so in their order
  pub keeps : Keeps json AreAlike old new
  keeps = anew_kept json IsLink IsFolder (λ s. Unit {0}) AreAlike json_layout old t new (nodes_stand ds old nodes) is
