-- An edge under another name.
use Rattle.std.specs.Prelude.{◌≡◌, ◌||◌, Bool, Some}
use Rattle.hm_tree.specs.Names.{Name}
use Rattle.hm_tree.specs.Nodes.{Tree, below}
use Rattle.hm_tree_parts.specs.Edges.{IsEdge}
use Rattle.hm_tree_parts.specs.Sets.{IsWithin}
use Rattle.hm_schema.specs.OneName.{alone, is}
use Rattle.hm_terms.specs.Lenses.{Lens, identity, sequence, hoist, plunge, fork}

abbrev pub rename : Name → Name → Lens
rename m n = fork (alone m) (alone n) (sequence (hoist m) (plunge n)) identity

-- a tree of the one edge m
abbrev pub Edge : Name → Tree → Type 0
Edge m t = (x : Tree) × IsEdge m x t

-- a tree that has m, and no other names than those that pass a test
pub record HasAlso (m : Name) (p : Name → Bool) (t : Tree) : Type 0 where
  pub child : Tree
  pub there : below m t ≡ Some child
  pub within : IsWithin (λ k. is m k || p k) t
