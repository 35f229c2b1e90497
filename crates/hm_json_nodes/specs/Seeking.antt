-- Nodes that are sought in the tree of what is to stand in their folder.
use Rattle.std.specs.Prelude.{ℕ}
use Rattle.hm_tree.specs.Nodes.{Tree}
use Rattle.hm_marks.specs.Among.{HasLeft, HasAll}
use Rattle.serde_json.specs.Data.{Data, Items, item}
use Rattle.hm_json_nodes.specs.Nodes.{Contents, AreNodes, json}

-- a tree hasn't all of what is left of a folder where this value stands first
abbrev pub IsLacking : Tree → Data → Type 0
IsLacking t d = (missing : ℕ) (behind : Items) (c : Contents) → AreNodes (item d behind) c → HasLeft json t missing c → ⊥

-- a tree hasn't all of what stands in a folder with these nodes, so it is another one than the folder's
abbrev pub IsOtherTree : Tree → Items → Type 0
IsOtherTree t ds = (c : Contents) → AreNodes ds c → HasAll json t c → ⊥
