-- The children of a tree, each with the lens that it goes through.
use Rattle.std.specs.Prelude.{◌≡◌, List, map, All, cond, Option, Some, None}
use Rattle.std.specs.Ordering.{eq_by_cmp}
use Rattle.hm_tree.specs.Names.{Name, name_cmp}
use Rattle.hm_tree.specs.Nodes.{Tree, edges}
use Rattle.hm_terms.specs.Lenses.{Lens, each, among, lens_at}
use Rattle.hm_eval_terms.specs.declared.children.Child.{Child}
use Rattle.hm_eval_terms.specs.Terms.{option_lens}

-- the lens that a lens on children has for the child of a name
abbrev pub lens_for : Lens → Name → Option Lens
lens_for (each l) n = Some l
lens_for (among ls) n = lens_at n ls
lens_for _ n = None

-- a lens on the children of a tree
pub data IsOnChildren : Lens → Type 0 where
  on_each : {l : Lens} → IsOnChildren (each l)
  on_among : {ls : _} → IsOnChildren (among ls)

-- one lens for a name, and others for other names
abbrev pub given : Name → Lens → (Name → Option Lens) → Name → Option Lens
given k l by n = cond (eq_by_cmp name_cmp n k) (Some l) (by n)

-- an edge, without the lens for its child
abbrev pub edge_of : Name × Child → Name × Tree
edge_of e = (e.0, e.1.tree)

-- the edges of a tree, each with the lens of its name for its child
pub record AreChildrenBy (lens : Name → Option Lens) (t : Tree) (es : List (Name × Child)) : Type 0 where
  pub edges : map edge_of es ≡ edges t
  pub lenses : All (λ (e : Name × Child). option_lens e.1.lens ≡ lens e.0) es

-- the same, by a lens on children
abbrev pub AreChildren : Lens → Tree → List (Name × Child) → Type 0
AreChildren z = AreChildrenBy (lens_for z)
