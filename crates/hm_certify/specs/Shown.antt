-- What a conflict shows, by what stands at its path.
use Rattle.std.specs.Prelude.{◌≡◌, ◌⊎◌, ◌++◌, [], Some}
use Rattle.hm_tree.specs.declared.archive.State.TheVariants.{Marked}
use Rattle.hm_tree.specs.States.{Path, state}
use Rattle.hm_schema.specs.declared.node.NodeId.{NodeId}
use Rattle.hm_schema.specs.Values.{Names, NodeValue, SchemaValue, node_of}
use Rattle.hm_schema.specs.Permitted.{Permits}
use Rattle.hm_outcome.specs.Trios.{Trio, views, Differ}
use Rattle.hm_certify.specs.News.{LosesHere}

-- an earlier mark, where the sides still differ
abbrev pub IsEarlierHere : Trio → Type 0
IsEarlierHere t = (state t.archive [] ≡ Marked) × Differ (views t) []

-- one side deleted it, and the first news of the other leads to a path
abbrev pub LosesBehind : Trio → Path → Path → Type 0
LosesBehind t p q = (rest : Path) × (q ≡ p ++ rest) × LosesHere t rest

-- the node of a path doesn't permit one of two sets
pub record AreNotPermitted (s : SchemaValue) (i : NodeId) (p : Path) (left right : Names) : Type 0 where
  pub node : NodeValue
  pub is : node_of s i p ≡ Some node
  pub refused : ¬ (Permits node left) ⊎ ¬ (Permits node right)
