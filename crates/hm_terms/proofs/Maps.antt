-- Trees as finite maps, where the names that have a lens are told from the others.
use Rattle.std.proofs.Common.{◌≡◌, Option, Some, None, refl}
use Rattle.hm_tree.specs.Names.{Name}
use Rattle.hm_tree.specs.Nodes.{Tree, below}
use Rattle.hm_tree_parts.specs.Edges.{names}
use Rattle.hm_tree_parts.proofs.Maps.{same_children, same_options, below_names}
use Rattle.hm_terms.specs.Lenses.{Lens, Lenses, lens_at}

-- trees are equal where what stands under each name is
pub same_named : (t u : Tree) → names t ≡ names u → (ls : Lenses)
    → ((k : Name) (l : Lens) (x y : Tree) → lens_at k ls ≡ Some l → below k t ≡ Some x → below k u ≡ Some y → x ≡ y)
    → ((k : Name) → lens_at k ls ≡ None → below k t ≡ below k u) → t ≡ u
same_named t u e ls f o = same_children t u (λ k. go k (lens_at k ls) refl)
  where
    go : (k : Name) (l : Option Lens) → lens_at k ls ≡ l → below k t ≡ below k u
    go k None none = o k none
    go k (Some l) named = same_options (below k t) (below k u) (below_names t u e k) (λ a b. f k l a b named)
