-- A tree's paths are in an archive where those of each child are.
use Rattle.std.proofs.Common.{◌≡◌, ℕ, ◌+◌, Bool, true, false, cond, [], ◌∷◌, take, slice_get, Option, Some, None, add-one, refl, sym, ap, subst, ◌∙◌}
use Rattle.std.specs.List.{All}
use Rattle.std.proofs.lemmas.List.Elements.{All-push}
use Rattle.hm_tree.specs.declared.archive.State.TheVariants.{Missing, Present, Marked}
use Rattle.hm_tree.specs.Names.{Name}
use Rattle.hm_tree.specs.Nodes.{Tree, below, edges, is_marked}
use Rattle.hm_tree.specs.NodeLaws.{marked_below}
use Rattle.hm_tree.specs.Archives.{Archive, under}
use Rattle.hm_tree.specs.States.{state, Path, IsWithin}
use Rattle.hm_tree.proofs.States.{state_root, state_down}
use Rattle.hm_tree.proofs.Sorted.{below_edge}
use Rattle.hm_tree.proofs.Steps.{found_edge}
use Rattle.hm_tree.proofs.Kept.{take_more}

-- one step down an archive, where it is present
present_down : (o : Archive) (k : Name) (p : Path) → state o (k ∷ p) ≡ Present → state (under k o) p ≡ Present
present_down None k p e = e
present_down (Some t) k p e = go (is_marked t) e
  where
    go : (b : Bool) → cond b Marked (state (below k t) p) ≡ Present → state (below k t) p ≡ Present
    go true e = cc
    go false e = e

present_up : (o : Archive) (k : Name) (p : Path) → state (under k o) p ≡ Present → state o (k ∷ p) ≡ Present
present_up None k p e = e
present_up (Some t) k p e = go (is_marked t) refl
  where
    go : (b : Bool) → is_marked t ≡ b → cond b Marked (state (below k t) p) ≡ Present
    go true m = let no : Missing ≡ Present = ap (λ z. state z p) (sym (marked_below t k m)) ∙ e in cc
    go false m = e

-- an archive is present at each path of an edge's child
abbrev pub IsEdgeWithin : Archive → Name × Tree → Type 0
IsEdgeWithin o e = IsWithin (Some e.1) (under e.0 o)

-- the archive's root is present, and so is the child under each name
pub within_root : (t : Tree) (o : Archive) → IsWithin (Some t) o → state o [] ≡ Present
within_root t o all = all [] (state_root t)

pub within_edge : (t : Tree) (o : Archive) (i : ℕ) (k : Name) (c : Tree) → slice_get (edges t) i ≡ Some (k, c) → IsWithin (Some t) o
    → IsEdgeWithin o (k, c)
within_edge t o i k c at all p e = present_down o k p (all (k ∷ p) (state_down t k p ∙ ap (λ z. state z p) (below_edge t i k c at) ∙ e))

within_nothing : (t : Tree) → IsWithin (Some t) None → ⊥
within_nothing t all = let no : Missing ≡ Present = all [] (state_root t) in cc

pub within_gone : (t : Tree) (o : Archive) (i : ℕ) (k : Name) (c : Tree) → slice_get (edges t) i ≡ Some (k, c) → under k o ≡ None
    → IsWithin (Some t) o → ⊥
within_gone t o i k c at none all = within_nothing c (subst (λ z. IsWithin (Some c) z) none (within_edge t o i k c at all))

pub within_more : (t : Tree) (o : Archive) (i : ℕ) (k : Name) (c : Tree) → slice_get (edges t) i ≡ Some (k, c)
    → All (IsEdgeWithin o) (take i (edges t)) → IsEdgeWithin o (k, c) → All (IsEdgeWithin o) (take (i + 1) (edges t))
within_more t o i k c at all here = rw (add-one, take_more (edges t) i (k, c) at) (All-push (IsEdgeWithin o) (take i (edges t)) (k, c) all here)

pub within_all : (t : Tree) (o : Archive) → state o [] ≡ Present → All (IsEdgeWithin o) (edges t) → IsWithin (Some t) o
within_all t o root all [] e = root
within_all t o root all (k ∷ p) e = present_up o k p (by (below k t) refl (sym (state_down t k p) ∙ e))
  where
    by : (b : Option Tree) → below k t ≡ b → state b p ≡ Present → state (under k o) p ≡ Present
    by None is e = let no : Missing ≡ Present = e in cc
    by (Some c) is e = found_edge (IsEdgeWithin o) k c (edges t) all is p e
