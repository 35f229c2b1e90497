-- Sets of trees: by the names of a tree, by the trees under each name, by parts and by sides.
use Rattle.std.specs.Prelude.{◌≡◌, Bool, false, List, not, Some, None}
use Rattle.hm_tree.specs.Names.{Name}
use Rattle.hm_tree.specs.Nodes.{Tree, below}
use Rattle.hm_tree.specs.Parts.{part}
use Rattle.hm_tree_parts.specs.Edges.{names}

-- every tree
abbrev pub Any : Tree → Type 0
Any t = Unit {0}

-- a tree of which the names, and the children under each name, are in sets
pub record Built (N : List Name → Type 0) (In : Name → Tree → Type 0) (t : Tree) : Type 0 where
  pub names_in : N (names t)
  pub children : (k : Name) (x : Tree) → below k t ≡ Some x → In k x

-- ---- parts

-- a tree has only names that pass a test
abbrev pub IsWithin : (Name → Bool) → Tree → Type 0
IsWithin p t = (k : Name) → p k ≡ false → below k t ≡ None

-- a set of the trees whose parts, by a test of names, are in two sets
pub record IsSplitSet (p : Name → Bool) (C C1 C2 : Tree → Type 0) : Type 0 where
  pub inside : (t : Tree) → C t → C1 (part p t)
  pub outside : (t : Tree) → C t → C2 (part (λ n. not (p n)) t)
  pub whole : (t : Tree) → C1 (part p t) → C2 (part (λ n. not (p n)) t) → C t
  pub in_one : (t : Tree) → C1 t → IsWithin p t
  pub in_two : (t : Tree) → C2 t → IsWithin (λ n. not (p n)) t

-- ---- sides

-- a set of two sides: the trees with a name, and those without it
pub data Side (n : Name) (C C1 C2 : Tree → Type 0) (t : Tree) : Type 0 where
  with_it : {x : Tree} → below n t ≡ Some x → C1 t → Side n C C1 C2 t
  without_it : below n t ≡ None → C2 t → Side n C C1 C2 t

pub record IsBranched (n : Name) (C C1 C2 : Tree → Type 0) : Type 0 where
  pub side : (t : Tree) → C t → Side n C C1 C2 t
  pub one : (t : Tree) → C1 t → C t
  pub two : (t : Tree) → C2 t → C t
  pub one_has : (t : Tree) → C1 t → (x : Tree) × (below n t ≡ Some x)
  pub two_lacks : (t : Tree) → C2 t → below n t ≡ None
