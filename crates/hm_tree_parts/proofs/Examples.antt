-- What the sets of trees say of single trees.
use Rattle.std.proofs.Common.{◌≡◌, Bool, true, not, List, None, ap}
use Rattle.hm_tree.specs.Names.{Name}
use Rattle.hm_tree.specs.Nodes.{Tree, below, empty}
use Rattle.hm_tree.specs.NodeLaws.{edges_empty}
use Rattle.hm_tree_parts.specs.Edges.{IsEdge, IsValue}
use Rattle.hm_tree_parts.specs.Lists.{IsItem, no_items, SomeItems}
use Rattle.hm_tree_parts.specs.Sets.{Built, IsSplitSet, IsBranched}
use Rattle.hm_tree_parts.proofs.OneEdge.{below-edge}

-- a list may have one item alone
one_item : (v : Name) (x t : Tree) → IsValue v x → IsItem x empty t → SomeItems (IsValue v) t
one_item v x t value is = record { first = x; rest = empty; is = is; in_set = record { first = value; rest = no_items edges_empty } }

-- what stands under the one name of a built tree is in the set of that name
child_of_built : (N : List Name → Type 0) (y : Tree) (n : Name) (x t : Tree) → Built N (λ k z. z ≡ y) t → IsEdge n x t → x ≡ y
child_of_built N y n x t built edge = built.children n x (below-edge n x t edge)

-- the second part has none of the names that pass
nothing_in_two : (p : Name → Bool) (C C1 C2 : Tree → Type 0) → IsSplitSet p C C1 C2 → (t : Tree) → C2 t → (k : Name) → p k ≡ true → below k t ≡ None
nothing_in_two p C C1 C2 split t inside k passes = split.in_two t inside k (ap not passes)

-- the second side has trees without the name, and the first has those with it
sides_apart : (n : Name) (C C1 C2 : Tree → Type 0) → IsBranched n C C1 C2 → (t : Tree) → C2 t → below n t ≡ None
sides_apart n C C1 C2 branched t inside = branched.two_lacks t inside
