-- Topmost paths that come and go, at the root and below a name.
use Rattle.std.proofs.Common.{◌≡◌, ◌≢◌, false, cond, [], ◌∷◌, ◌++◌, Some, None, refl, sym, ap, subst, ◌∙◌, inl, inr}
use Rattle.std.specs.List.{Contains}
use Rattle.std.specs.List.Sorted.{IsStrictlySortedBy}
use Rattle.hm_tree.specs.declared.archive.State.{State}
use Rattle.hm_tree.specs.declared.archive.State.TheVariants.{Missing, Present, Marked}
use Rattle.hm_tree.specs.Names.{Name}
use Rattle.hm_tree.specs.Nodes.{Tree, below}
use Rattle.hm_tree.specs.NodeLaws.{tree_unmarked}
use Rattle.hm_tree.specs.States.{Path, View, state}
use Rattle.hm_changes.specs.declared.change.Change.{Change}
use Rattle.hm_changes.specs.declared.change.Turn.{Turn}
use Rattle.hm_changes.specs.declared.change.Turn.TheVariants.{Added, Deleted}
use Rattle.hm_changes.specs.Changes.{IsTurned, IsTopmost, AreChanges}
use Rattle.hm_changes.proofs.Lists.{contains_nothing, contains_here, first_or_later}

abbrev pub change : Turn → Path → Change
change turn p = record { turn = turn; path = p }

missing_or_present : (s : State) → s ≡ Missing → s ≡ Present → ⊥
missing_or_present s m p = let bad : Missing ≡ Present = sym m ∙ p in let f : ⊥ = cc in f

-- a path that comes or goes isn't the same in both
pub turned_apart : (t : Turn) (v w : View) (p : Path) → IsTurned t v w p → w p ≡ v p → ⊥
turned_apart Added v w p h same = missing_or_present (v p) h.0 (sym same ∙ h.1)
turned_apart Deleted v w p h same = missing_or_present (v p) (sym same ∙ h.1) h.0

pub turned_once : (t u : Turn) (v w : View) (p : Path) → IsTurned t v w p → IsTurned u v w p → t ≡ u
turned_once Added Added v w p h g = refl
turned_once Added Deleted v w p h g = absurd (missing_or_present (v p) h.0 g.0)
turned_once Deleted Added v w p h g = absurd (missing_or_present (v p) g.0 h.0)
turned_once Deleted Deleted v w p h g = refl

pub turned_down : (t : Turn) (v w : View) (k : Name) (p : Path) → IsTurned t v w (k ∷ p) → IsTurned t (λ q. v (k ∷ q)) (λ q. w (k ∷ q)) p
turned_down Added v w k p h = h
turned_down Deleted v w k p h = h

pub turned_up : (t : Turn) (v w : View) (k : Name) (p : Path) → IsTurned t (λ q. v (k ∷ q)) (λ q. w (k ∷ q)) p → IsTurned t v w (k ∷ p)
turned_up Added v w k p h = h
turned_up Deleted v w k p h = h

pub top_down : (v w : View) (t : Turn) (k : Name) (p : Path) → IsTopmost v w (change t (k ∷ p)) → IsTopmost (λ q. v (k ∷ q)) (λ q. w (k ∷ q)) (change t p)
top_down v w t k p top = record {
  turned = turned_down t v w k p top.turned;
  topmost = λ q r e n. top.topmost (k ∷ q) r (ap (λ (l : Path). k ∷ l) e) n;
}

pub top_up : (v w : View) (t : Turn) (k : Name) (p : Path) → w [] ≡ v [] → IsTopmost (λ q. v (k ∷ q)) (λ q. w (k ∷ q)) (change t p) → IsTopmost v w (change t (k ∷ p))
top_up v w t k p root top = record { turned = turned_up t v w k p top.turned; topmost = above }
  where
    above : (q r : Path) → k ∷ p ≡ q ++ r → r ≢ [] → w q ≡ v q
    above [] r e n = root
    above (j ∷ q) r e n =
        let name : k ≡ j = cc in
        let rest : p ≡ q ++ r = cc in
        subst (λ (x : Name). w (x ∷ q) ≡ v (x ∷ q)) name (top.topmost q r rest n)

-- ---- views that don't both have the root

root_alone : (v w : View) (t : Turn) → IsTurned t v w [] → IsTopmost v w (change t [])
root_alone v w t h = record { turned = h; topmost = above }
  where
    above : (q r : Path) → [] ≡ q ++ r → r ≢ [] → w q ≡ v q
    above [] r e n = absurd (n (sym e))
    above (j ∷ q) r e n = let f : ⊥ = cc in absurd f

pub root_turns : (v w : View) (t : Turn) → IsTurned t v w [] → AreChanges v w (change t [] ∷ [])
unfolding IsStrictlySortedBy
root_turns v w t h = record { ascending = (tt, tt); each = λ c. (forth c, λ top. back c.turn c.path top) }
  where
    forth : (c : Change) → Contains (change t [] ∷ []) c → IsTopmost v w c
    forth c among = elim (first_or_later (change t []) [] c among) [
      | inl e ↦ subst (IsTopmost v w) e (root_alone v w t h)
      | inr c' ↦ absurd (contains_nothing c c')
    ]

    back : (u : Turn) (p : Path) → IsTopmost v w (change u p) → Contains (change t [] ∷ []) (change u p)
    back u [] top = subst (λ (x : Turn). Contains (change t [] ∷ []) (change x [])) (turned_once t u v w [] h top.turned) (contains_here (change t []) [])
    back u (k ∷ p) top = absurd (turned_apart t v w [] h (top.topmost [] (k ∷ p) refl (λ e. let f : ⊥ = cc in f)))

pub nothing_turns : (t : Turn) (p : Path) → IsTopmost (state {m = false} None) (state {m = false} None) (change t p) → ⊥
nothing_turns t p top = turned_apart t (state {m = false} None) (state {m = false} None) p top.turned refl

pub no_changes : AreChanges (state {m = false} None) (state {m = false} None) []
unfolding IsStrictlySortedBy
no_changes = record { ascending = tt; each = λ c. ((λ among. absurd (contains_nothing c among)), (λ top. absurd (nothing_turns c.turn c.path top))) }

-- ---- a tree at its root and below a name

pub at_root : (t : Tree) → state (Some t) [] ≡ Present
at_root t = ap (λ b. cond b Marked Present) (tree_unmarked t)

pub below_name : (t : Tree) (k : Name) → ◌≡◌ {A = View} (λ p. state (Some t) (k ∷ p)) (state (below k t))
below_name t k = λ i p. cond (tree_unmarked t i) Marked (state (below k t) p)

pub tree_goes : (t : Tree) → IsTurned Deleted (state (Some t)) (state {m = false} None) []
tree_goes t = (at_root t, refl)

pub tree_comes : (t : Tree) → IsTurned Added (state {m = false} None) (state (Some t)) []
tree_comes t = (refl, at_root t)
