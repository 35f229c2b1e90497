-- What stands at a path, one step down.
use Rattle.std.proofs.Common.{◌≡◌, ◌≢◌, List, map, true, false, cond, [], ◌∷◌, Option, Some, None, refl, ap, ◌∙◌}
use Rattle.hm_tree.specs.declared.archive.State.TheVariants.{Present, Marked}
use Rattle.std.specs.Ordering.{eq_by_cmp}
use Rattle.std.specs.FinMap.{find}
use Rattle.hm_tree.specs.Names.{Name, name_cmp}
use Rattle.hm_tree.specs.Nodes.{Tree, below, marked, edges}
use Rattle.hm_tree.specs.NodeLaws.{marked_is, tree_unmarked}
use Rattle.hm_tree.specs.Archives.{Archive, recorded, edges-recorded, recorded_unmarked}
use Rattle.hm_tree.specs.States.{state, Path}

pub state_root : (t : Tree) → state (Some t) [] ≡ Present
state_root t = rw (tree_unmarked t) refl

pub state_down : (t : Tree) (k : Name) (p : Path) → state (Some t) (k ∷ p) ≡ state (below k t) p
state_down t k p = rw (tree_unmarked t) refl

-- a tree, or a missing side, has no mark
pub state_unmarked : (a : Option Tree) (p : Path) → state a p ≢ Marked
state_unmarked None p e = let f : ⊥ = cc in f
state_unmarked (Some t) [] e = let h : Present ≡ Marked = rw (tree_unmarked t) at e in let f : ⊥ = cc in f
state_unmarked (Some t) (k ∷ p) e = state_unmarked (below k t) p (rw (tree_unmarked t) at e)

-- every path of a mark is marked
pub state_marked : (p : Path) → state (Some marked) p ≡ Marked
state_marked [] = rw marked_is refl
state_marked (k ∷ p) = rw marked_is refl

-- ---- what a tree is in an archive has the tree's states

abbrev record_option : Option Tree → Archive
record_option None = None
record_option (Some t) = Some (recorded t)

find_recorded : (k : Name) (es : List (Name × Tree)) → find name_cmp k (map (λ e. (e.0, recorded e.1)) es) ≡ record_option (find name_cmp k es)
find_recorded k [] = refl
find_recorded k (e ∷ es) =
    ap (cond (eq_by_cmp name_cmp k e.0) (Some (recorded e.1))) (find_recorded k es)
    ∙ elim (eq_by_cmp name_cmp k e.0) as (λ b. cond b (Some (recorded e.1)) (record_option (find name_cmp k es)) ≡ record_option
    (cond b (Some e.1) (find name_cmp k es))) [ true ↦ refl | false ↦ refl ]

below_recorded : (k : Name) (t : Tree) → below k (recorded t) ≡ record_option (below k t)
below_recorded k t = ap (find name_cmp k) (edges-recorded t) ∙ find_recorded k (edges t)

state_option : (a : Option Tree) (p : Path) → state (record_option a) p ≡ state a p
state_option None p = refl
state_option (Some t) [] = rw (recorded_unmarked t, tree_unmarked t) refl
state_option (Some t) (k ∷ p) = rw (recorded_unmarked t, tree_unmarked t, below_recorded k t) (state_option (below k t) p)

pub state-recorded : (t : Tree) (p : Path) → state (Some (recorded t)) p ≡ state (Some t) p
state-recorded t p = state_option (Some t) p
