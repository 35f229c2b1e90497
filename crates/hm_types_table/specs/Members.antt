-- What a node of a table asks of the root of a tree.
use Rattle.std.specs.Prelude.{All}
use Rattle.hm_tree.specs.Nodes.{Tree}
use Rattle.hm_schema.specs.Values.{NodeValue}
use Rattle.hm_schema.specs.Permitted.{Permits, names_of}
use Rattle.hm_schema.specs.Standing.{HasTwin}

-- the names of a tree are permitted, and its twins are alike
pub record Allows (n : NodeValue) (t : Tree) : Type 0 where
  pub permitted : Permits n (names_of t)
  pub twins : All (HasTwin t) n.twins
