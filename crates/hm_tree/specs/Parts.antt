-- A tree in two parts, by its names, and two trees as one.
use Rattle.std.specs.Prelude.{◌≡◌, ◌⊎◌, ℕ, Bool, not, List, ◌∷◌, ◌++◌, None}
use Rattle.std.specs.Option.{option_or}
use Rattle.std.specs.List.{filter}
use Rattle.std.specs.FinSet.{FinSet, contains}
use Rattle.hm_tree.specs.Names.{Name, name_cmp}
use Rattle.hm_tree.specs.Nodes.{Tree, node, edges, below}
use Rattle.hm_tree.specs.Sets.{ArePassed}

-- the edges whose names pass a test
abbrev pub part : (Name → Bool) → Tree → Tree
part p t = node (filter (λ (e : Name × Tree). p e.0) (edges t))

-- the edges whose names are in a set, and the others
pub record IsSplit (names : FinSet name_cmp) (t : Tree) (parts : Tree × Tree) : Type 0 where
  pub inside : parts.0 ≡ part (contains names) t
  pub outside : parts.1 ≡ part (λ n. not (contains names n)) t

-- no name is that of an edge of both
abbrev pub AreApart : Tree → Tree → Type 0
AreApart x y = (k : Name) → (below k x ≡ None) ⊎ (below k y ≡ None)

-- a tree has all edges of two trees, which have no common name
pub record Joins (x y t : Tree) : Type 0 where
  pub apart : AreApart x y
  pub all : (k : Name) → below k t ≡ option_or (below k x) (below k y)

-- the edges of a tree in two parts so far, and those that are left, on a walk over names, of which those before a place are
-- less than the name of the next edge
pub record ArePartedSoFar (names : FinSet name_cmp) (walk : List Name) (t : Tree) (rest inside outside : List (Name × Tree)) (at : ℕ) : Type 0 where
  pub parted : List (Name × Tree)
  pub whole : edges t ≡ parted ++ rest
  pub is_inside : inside ≡ filter (λ (e : Name × Tree). contains names e.0) parted
  pub is_outside : outside ≡ filter (λ (e : Name × Tree). not (contains names e.0)) parted
  pub passed : (e : Name × Tree) (left : List (Name × Tree)) → rest ≡ e ∷ left → ArePassed walk at e.0
