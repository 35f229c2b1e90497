-- Which trees stand at a node, where it is known which stand at what its edges lead to.
use Rattle.std.specs.Prelude.{◌≡◌, All, Some}
use Rattle.hm_tree.specs.Names.{Name}
use Rattle.hm_tree.specs.Nodes.{Tree, below}
use Rattle.hm_schema.specs.Values.{NodeOver, child_of}
use Rattle.hm_schema.specs.Permitted.{Permits, names_of}

-- a tree may stand below a name of a node
pub record IsBelow {I : Type 0} (In : I → Tree → Type 0) (n : NodeOver I) (k : Name) (x : Tree) : Type 0 where
  pub child : I
  pub is : child_of n k ≡ Some child
  pub inside : In child x

-- two names of a tree are there, and the same tree stands below them
pub record HasTwin (t : Tree) (twin : Name × Name) : Type 0 where
  pub tree : Tree
  pub one : below twin.0 t ≡ Some tree
  pub two : below twin.1 t ≡ Some tree

-- the names of a tree are permitted, its twins are alike, and each child may stand below its name
pub record Stands {I : Type 0} (In : I → Tree → Type 0) (n : NodeOver I) (t : Tree) : Type 0 where
  pub permitted : Permits n (names_of t)
  pub twins : All (HasTwin t) n.twins
  pub children : (k : Name) (x : Tree) → below k t ≡ Some x → IsBelow In n k x

-- two sets have the same trees
pub record Alike (C D : Tree → Type 0) : Type 0 where
  pub into : (t : Tree) → C t → D t
  pub from : (t : Tree) → D t → C t
