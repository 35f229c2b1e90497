-- Nodes at which all trees have the same names, and those at which just one tree stands.
use Rattle.std.specs.Prelude.{◌≡◌, ◌<◌, ◌↔◌, IsTrue, [], ◌∷◌, length, Some, None, All}
use Rattle.std.specs.FinSet.{contains, from_list}
use Rattle.hm_tree.specs.Names.{Name}
use Rattle.hm_tree.specs.Nodes.{Tree, below}
use Rattle.hm_schema.specs.declared.node.Shape.{Shape}
use Rattle.hm_schema.specs.Values.{Names, NodeOver}
use Rattle.hm_schema.specs.Permitted.{names_of}
use Rattle.hm_schema.specs.WellFormed.{IsWellFormedShape}
use Rattle.hm_schema.specs.OneName.{alone}
use Rattle.hm_schema.specs.Shapes.{IsShut, HasOnly, Requires}
use Rattle.hm_schema.specs.Standing.{IsBelow}

-- a shape requires these names, has no others, and lets no unlisted name in
pub record HasExactly (names : Names) (a : Shape) : Type 0 where
  pub requires : (k : Name) → IsTrue (contains names k) → Requires k a
  pub only : HasOnly (contains names) a
  pub shut : IsShut a

-- there is a shape, and each has exactly these names; there are no twins
pub record IsOf {I : Type 0} (names : Names) (n : NodeOver I) : Type 0 where
  pub well : All (IsWellFormedShape n) n.shapes
  pub some : 0 < length n.shapes
  pub exact : All (HasExactly names) n.shapes
  pub plain : n.twins ≡ []

-- the shape of these names alone
abbrev pub exact_shape : Names → Shape
exact_shape names = record { required = names; optional = from_list []; least = 0; most = Some 0 }

-- the node of one name, which leads to a child
abbrev pub edge_node : {I : Type 0} → Name → I → NodeOver I
edge_node m i = record { shapes = exact_shape (alone m) ∷ []; children = (m, i) ∷ []; other = None; twins = [] }

-- a node has the names of a tree, and each of them leads to what holds just what stands below it in the tree
pub record IsOnly {I : Type 0} (In : I → Tree → Type 0) (n : NodeOver I) (t : Tree) : Type 0 where
  pub names : IsOf (names_of t) n
  pub children : (k : Name) (x : Tree) → below k t ≡ Some x → (y : Tree) → IsBelow In n k y ↔ y ≡ x
