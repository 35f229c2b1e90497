-- Lenses that put a name in place of another, and what they show.
use Rattle.std.specs.Prelude.{◌≡◌, Some, IsUtf8}
use Rattle.hm_tree.specs.Names.{Name}
use Rattle.hm_tree.specs.Nodes.{Tree, below, with_edge, without_edge}
use Rattle.hm_schema.specs.Values.{Names}
use Rattle.hm_terms.specs.Lenses.{Lens, identity, sequence, hoist, plunge, fork}

-- the lens that shows the one edge m of a part under n, and the other edges as they are
pub record IsRenaming (l : Lens) (m n : Name) : Type 0 where
  pub part : Names
  pub shown : Names
  pub is : l ≡ fork part shown (sequence (hoist m) (plunge n)) identity

-- the tree c with what stood under m under n instead
pub record IsRenamed (m n : Name) (c v : Tree) : Type 0 where
  pub child : Tree
  pub there : below m c ≡ Some child
  pub text : IsUtf8 n
  pub is : v ≡ with_edge n child (without_edge m c)
