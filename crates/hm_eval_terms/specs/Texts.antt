-- The texts of values.
use Rattle.std.specs.Prelude.{◌≡◌, [], ◌∷◌, Option, Some, None}
use Rattle.hm_tree.specs.Names.{Name}
use Rattle.hm_tree.specs.Nodes.{Tree}
use Rattle.hm_tree_parts.specs.Edges.{names}

-- the one name of a tree from before, if there is one
pub data IsNameBefore : Option Tree → Option Name → Type 0 where
  no_name : IsNameBefore None None
  its_name : {b : Tree} {u : Name} → names b ≡ u ∷ [] → IsNameBefore (Some b) (Some u)
