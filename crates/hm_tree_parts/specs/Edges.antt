-- Trees by their edges: the names of a tree, what stands under them, and trees of one edge.
use Rattle.std.specs.Prelude.{◌≡◌, List, [], ◌∷◌, map, length}
use Rattle.hm_tree.specs.Names.{Name}
use Rattle.hm_tree.specs.Nodes.{Tree, edges, empty}

abbrev pub names : Tree → List Name
names t = map (λ (e : Name × Tree). e.0) (edges t)

-- what stands under the names of a tree, in their order
abbrev pub children : Tree → List Tree
children t = map (λ (e : Name × Tree). e.1) (edges t)

-- the one edge of a tree is n, to x
abbrev pub IsEdge : Name → Tree → Tree → Type 0
IsEdge n x t = edges t ≡ (n, x) ∷ []

abbrev pub HasOneEdge : Tree → Type 0
HasOneEdge t = length (edges t) ≡ 1

-- the one edge of a tree has a name
pub record HasEdge (n : Name) (t : Tree) : Type 0 where
  pub child : Tree
  pub is : IsEdge n child t

-- a value: the one edge of a tree is a text, to an empty tree
abbrev pub IsValue : Name → Tree → Type 0
IsValue v t = IsEdge v empty t

-- a value whose text is in a set
pub record ValueIn (C : Name → Type 0) (t : Tree) : Type 0 where
  pub text : Name
  pub is : IsValue text t
  pub inside : C text
