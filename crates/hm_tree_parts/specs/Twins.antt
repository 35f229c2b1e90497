-- A child under two names: copied, and merged again.
use Rattle.std.specs.Prelude.{◌≡◌, Option, Some, None}
use Rattle.hm_tree.specs.Names.{Name}
use Rattle.hm_tree.specs.Nodes.{Tree, below, with_edge}

-- something stands under each of two names
pub record HasBoth (m n : Name) (t : Tree) : Type 0 where
  pub one : Tree
  pub two : Tree
  pub at_one : below m t ≡ Some one
  pub at_two : below n t ≡ Some two

-- u is t with what stands under m under n too
pub record IsCopied (m n : Name) (t u : Tree) : Type 0 where
  pub child : Tree
  pub there : below m t ≡ Some child
  pub is : u ≡ with_edge n child t

-- what is put under the second of two merged names, where x stands under the first in the view: x, or what stood there
-- before where that was another tree than under the first
pub data MergedFrom (m n : Name) (x : Tree) : Option Tree → Tree → Type 0 where
  of_none : MergedFrom m n x None x
  of_same : {b z : Tree} → below m b ≡ Some z → below n b ≡ Some z → MergedFrom m n x (Some b) x
  of_other : {b z w : Tree} → below m b ≡ Some z → below n b ≡ Some w → ¬ (z ≡ w) → MergedFrom m n x (Some b) w

-- c is a view a with what is merged from it and from a tree from before under n
pub record IsMergedBack (m n : Name) (a : Tree) (b : Option Tree) (c : Tree) : Type 0 where
  pub shown : Tree
  pub child : Tree
  pub there : below m a ≡ Some shown
  pub merged : MergedFrom m n shown b child
  pub is : c ≡ with_edge n child a
