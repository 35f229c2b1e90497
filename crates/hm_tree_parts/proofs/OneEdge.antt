-- Trees of one edge.
use Rattle.std.proofs.Common.{◌≡◌, List, [], ◌∷◌, Some, refl, sym, ap, ◌∙◌}
use Rattle.std.proofs.lemmas.Cmp.{tied_itself}
use Rattle.std.proofs.lemmas.Option.{same_Some}
use Rattle.std.specs.FinMap.{find}
use Rattle.hm_tree.specs.Names.{Name, name_cmp}
use Rattle.hm_tree.specs.Nodes.{Tree, below, empty}
use Rattle.hm_tree.specs.NodeLaws.{same_edges, tree_unmarked}
use Rattle.hm_tree.proofs.Sorted.{name_total}
use Rattle.hm_tree_parts.specs.Edges.{IsEdge, IsValue}

pub below-edge : (n : Name) (x t : Tree) → IsEdge n x t → below n t ≡ Some x
below-edge n x t e = ap (find name_cmp n) e ∙ rw (tied_itself name_total n) refl

pub one_edge : (n : Name) (x y t : Tree) → IsEdge n x t → IsEdge n y t → x ≡ y
one_edge n x y t e f = same_Some x y (sym (below-edge n x t e) ∙ below-edge n y t f)

pub edge_one : (n : Name) (x t u : Tree) → IsEdge n x t → IsEdge n x u → t ≡ u
edge_one n x t u e f = same_edges t u (tree_unmarked t) (tree_unmarked u) (e ∙ sym f)

-- the text of a value, and the value of a text
first_name : List (Name × Tree) → Name
first_name [] = []
first_name (e ∷ es) = e.0

pub one_value : (v w : Name) (t : Tree) → IsValue v t → IsValue w t → v ≡ w
unfolding first_name
one_value v w t e f = ap first_name (sym e ∙ f)

pub same_value : (v : Name) (t u : Tree) → IsValue v t → IsValue v u → t ≡ u
same_value v t u e f = edge_one v empty t u e f
