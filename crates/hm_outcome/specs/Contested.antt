-- Where a mark has to stand, and why.
use Rattle.std.specs.Prelude.{◌≡◌, ◌≢◌, ◌⊎◌, [], ◌++◌, Some}
use Rattle.hm_tree.specs.declared.archive.State.TheVariants.{Present, Marked}
use Rattle.hm_tree.specs.States.{Path, Has}
use Rattle.hm_safety.specs.Views.{Views}
use Rattle.hm_safety.specs.Changes.{Clash}
use Rattle.hm_schema.specs.declared.node.NodeId.{NodeId}
use Rattle.hm_schema.specs.Values.{Names, NodeValue, SchemaValue, node_of}
use Rattle.hm_schema.specs.Permitted.{Permits}
use Rattle.hm_outcome.specs.Trios.{Differ}
use Rattle.hm_outcome.specs.Carried.{AreCarried}

-- both sides have a path, and the node there doesn't permit the names that one of them is to have
pub record AreRefused (s : SchemaValue) (i : NodeId) (v : Views) (p : Path) (left right : Names) : Type 0 where
  pub has_left : Has v.left p
  pub has_right : Has v.right p
  pub unmarked : v.archive p ≢ Marked
  pub are_left : AreCarried v.archive v.left v.right p left
  pub are_right : AreCarried v.archive v.right v.left p right
  pub node : NodeValue
  pub is : node_of s i p ≡ Some node
  pub refused : ¬ (Permits node left) ⊎ ¬ (Permits node right)

pub data IsContested (s : SchemaValue) (i : NodeId) (v : Views) (p : Path) : Type 0 where
  -- an earlier mark, where the sides still differ, there or below
  earlier : v.archive p ≡ Marked → Differ v p → IsContested s i v p
  -- one side deleted it, and the other has news there or below
  lost : v.archive p ≡ Present → Clash v p → IsContested s i v p
  -- names that can't stand together
  refused : {left right : Names} → AreRefused s i v p left right → IsContested s i v p

-- contested, and nothing above it is
pub record IsTopmostContested (s : SchemaValue) (i : NodeId) (v : Views) (p : Path) : Type 0 where
  pub contested : IsContested s i v p
  pub topmost : (q r : Path) → p ≡ q ++ r → r ≢ [] → ¬ (IsContested s i v q)
