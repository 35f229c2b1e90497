-- What nodes are read as, counted behind so many.
use Rattle.std.specs.Prelude.{◌≡◌, ◌+◌, ℕ, List, length}
use Rattle.serde_json.specs.Data.{Data, Items}
use Rattle.hm_marks_trees.specs.Nodes as trees
use Rattle.hm_marks_trees.specs.declared.node.Node.{Node}
use Rattle.hm_json_nodes.specs.Nodes.{Contents, AreNodes, json}
use Rattle.hm_marks_trees.specs.Nodes.{seen}
use Rattle.hm_json_nodes.specs.Numbers.{listed, is_node, IsFirstBad}

-- items are the nodes of a folder, and these show what stands in it; from so many nodes that were counted before to so many
pub record AreRead (items : Items) (from to : ℕ) (nodes : List Node) : Type 0 where
  pub contents : Contents
  pub are : AreNodes items contents
  pub show : trees.contents nodes ≡ seen json contents
  pub count : to ≡ from + length (listed items)

-- the number of the first of these that is no node, behind so many
pub record IsMisfit (nodes : List Data) (from number : ℕ) : Type 0 where
  pub place : ℕ
  pub first : IsFirstBad is_node nodes place
  pub is : number ≡ from + place
