-- What stands at a path.
use Rattle.std.proofs.Common.{◌≡◌, ◌≢◌, ℕ, suc, ◌+◌, ◌<◌, ◌≤◌, add-one, drop-cons, length, drop, get_or, append-nil, Bool, true, false, cond, [], ◌∷◌, ◌++◌, Option, Some, None, IsTrue, is_some, refl, sym, ap, ◌∙◌}
use Rattle.std.proofs.lemmas.List.{drop_all}
use Rattle.hm_tree.specs.declared.archive.State.TheVariants.{Missing, Present, Marked}
use Rattle.hm_tree.specs.Names.{Name}
use Rattle.hm_tree.specs.Nodes.{Node, Tree, below, is_marked}
use Rattle.hm_tree.specs.NodeLaws.{tree_unmarked}
use Rattle.hm_tree.specs.Archives.{Archive, under}
use Rattle.hm_tree.specs.States.{state, at_path, Path}
use Rattle.hm_tree.proofs.States.{state_root}

-- the state at a path is that of what stands there, at its root
pub state_at : {m : Bool} (t : Option (Node m)) (p r : Path) → state t (p ++ r) ≡ state (at_path t p) r
state_at t [] r = refl
state_at None (k ∷ p) r = refl
state_at (Some t) (k ∷ p) r = go (is_marked t) refl (state_at (below k t) p r)
  where
    of_mark : (r : Path) → is_marked t ≡ true → Marked ≡ state (Some t) r
    of_mark [] e = rw e refl
    of_mark (j ∷ r) e = rw e refl

    go : (b : Bool) → is_marked t ≡ b → state (below k t) (p ++ r) ≡ state (at_path (below k t) p) r
        → cond b Marked (state (below k t) (p ++ r)) ≡ state (cond b (Some t) (at_path (below k t) p)) r
    go true e rest = of_mark r e
    go false e rest = rest

pub state_here : {m : Bool} (t : Option (Node m)) (p : Path) → state t p ≡ state (at_path t p) []
state_here t p = ap (state t) (sym (append-nil p)) ∙ state_at t p []

pub nothing_below : {m : Bool} (p : Path) → at_path {m = m} None p ≡ None
nothing_below [] = refl
nothing_below (k ∷ p) = refl

-- ---- the same along the list of a path's names, of which i were passed

pub front_is : (p : Path) (i : ℕ) (k : Name) → i < length p → k ≡ get_or p i k → drop i p ≡ k ∷ drop (i + 1) p
front_is p i k lt e = rw add-one (drop-cons p i k lt ∙ (λ j. sym e j ∷ drop (suc i) p))

pub at_end : {m : Bool} (t : Option (Node m)) (p : Path) (i : ℕ) → length p ≤ i → at_path t (drop i p) ≡ t
at_end t p i le = ap (at_path t) (drop_all i p le)

pub tree_down : (t : Tree) (p : Path) (i : ℕ) (k : Name) → i < length p → k ≡ get_or p i k
    → at_path (Some t) (drop i p) ≡ at_path (below k t) (drop (i + 1) p)
tree_down t p i k lt e = ap (at_path (Some t)) (front_is p i k lt e) ∙ rw (tree_unmarked t) refl

pub tree_off : (t : Tree) (p : Path) (i : ℕ) (k : Name) → i < length p → k ≡ get_or p i k → below k t ≡ None → at_path (Some t) (drop i p) ≡ None
tree_off t p i k lt e gone = tree_down t p i k lt e ∙ ap (λ a. at_path a (drop (i + 1) p)) gone ∙ nothing_below (drop (i + 1) p)

pub ruleset tree_steps = (tree_off, at_end)

pub archive_mark : (o : Archive) (p : Path) (i : ℕ) (k : Name) → i < length p → k ≡ get_or p i k → state o [] ≡ Marked → at_path o (drop i p) ≡ o
archive_mark None p i k lt e m = let f : ⊥ = cc in absurd f
archive_mark (Some t) p i k lt e m = ap (at_path (Some t)) (front_is p i k lt e) ∙ go (is_marked t) m
  where
    go : (b : Bool) → cond b Marked Present ≡ Marked → cond b (Some t) (at_path (below k t) (drop (i + 1) p)) ≡ Some t
    go true m = refl
    go false m = let f : ⊥ = cc in absurd f

pub archive_down : (o : Archive) (p : Path) (i : ℕ) (k : Name) → i < length p → k ≡ get_or p i k → state o [] ≢ Marked
    → at_path o (drop i p) ≡ at_path (under k o) (drop (i + 1) p)
archive_down None p i k lt e n = ap (at_path None) (front_is p i k lt e) ∙ sym (nothing_below (drop (i + 1) p))
archive_down (Some t) p i k lt e n = ap (at_path (Some t)) (front_is p i k lt e) ∙ go (is_marked t) n
  where
    go : (b : Bool) → cond b Marked Present ≢ Marked → cond b (Some t) (at_path (below k t) (drop (i + 1) p)) ≡ at_path (below k t) (drop (i + 1) p)
    go true n = absurd (n refl)
    go false n = refl

pub archive_off : (o : Archive) (p : Path) (i : ℕ) (k : Name) → i < length p → k ≡ get_or p i k → state o [] ≢ Marked → under k o ≡ None
    → at_path o (drop i p) ≡ None
archive_off o p i k lt e n gone = archive_down o p i k lt e n ∙ ap (λ a. at_path a (drop (i + 1) p)) gone ∙ nothing_below (drop (i + 1) p)

-- nothing stands at any path of a missing archive, and else something stands at the root
pub archive_gone : (o : Archive) (p : Path) → state o [] ≡ Missing → at_path o p ≡ None
archive_gone None p m = nothing_below p
archive_gone (Some t) p m = absurd (go (is_marked t) m)
  where
    go : (b : Bool) → cond b Marked Present ≡ Missing → ⊥
    go true m = let f : ⊥ = cc in f
    go false m = let f : ⊥ = cc in f

pub archive_there : (o : Archive) → state o [] ≢ Missing → IsTrue (is_some o)
archive_there None n = absurd (n refl)
archive_there (Some t) n = refl

pub ruleset archive_steps = (archive_mark, archive_off, at_end)

-- ---- the state at a path, by what stands there

pub found_state : (o found : Archive) (p : Path) → found ≡ at_path o p → state found [] ≡ state o p
found_state o found p is = ap (λ a. state a []) is ∙ sym (state_here o p)

pub lost_state : (o : Archive) (p : Path) → at_path o p ≡ None → Missing ≡ state o p
lost_state o p gone = sym (state_here o p ∙ ap (λ a. state a []) gone)

pub ruleset archive_state = (found_state, lost_state)

pub stands : (t u : Tree) (p : Path) → Some u ≡ at_path (Some t) p → state (Some t) p ≡ Present
stands t u p is = state_here (Some t) p ∙ ap (λ a. state a []) (sym is) ∙ state_root u

pub stands_not : (t : Tree) (p : Path) → None ≡ at_path (Some t) p → state (Some t) p ≢ Present
stands_not t p gone h =
    let bad : Missing ≡ Present = sym (state_here (Some t) p ∙ ap (λ a. state a []) (sym gone)) ∙ h in
    let f : ⊥ = cc in f

pub ruleset tree_state = (stands, stands_not)
