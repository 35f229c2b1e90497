-- Trees of links and folders: what they hold is known from them, they from it, and which of the two they are.
use Rattle.std.proofs.Common.{◌≡◌, List, [], ◌∷◌, get_or, sym, ap, ◌∙◌, subst, arith}
use Rattle.hm_tree.specs.Names.{Name}
use Rattle.hm_tree.specs.Nodes.{Tree}
use Rattle.hm_tree_parts.specs.Edges.{IsEdge, IsValue}
use Rattle.hm_tree_parts.proofs.OneEdge.{one_edge, edge_one, one_value, same_value}
use Rattle.hm_marks.specs.FolderTrees.{folder_name, url_name, IsLinkTree, IsFolderTree}

pub one_address : (n m : Name) (t : Tree) → IsLinkTree n t → IsLinkTree m t → n ≡ m
one_address n m t a b = one_value n m b.value (subst (IsValue n) (one_edge url_name a.value b.value t a.below b.below) a.text) b.text

pub one_link : (n : Name) (t u : Tree) → IsLinkTree n t → IsLinkTree n u → t ≡ u
one_link n t u a b = edge_one url_name b.value t u (subst (λ v. IsEdge url_name v t) (same_value n a.value b.value a.text b.text) a.below) b.below

first_name : List (Name × Tree) → Name
first_name [] = []
first_name (e ∷ es) = e.0

pub names_apart : url_name ≡ folder_name → ⊥
names_apart e = let first : 117 ≡ 102 = ap (λ (n : Name). get_or n 0 0) e in omega (arith, first)

pub not_both : (n : Name) (u t : Tree) → IsLinkTree n t → IsFolderTree u t → ⊥
unfolding first_name
not_both n u t a b = names_apart (ap first_name (sym a.below ∙ b))
