-- Marks reach down from the topmost ones, and what has a path has each path above it.
use Rattle.std.proofs.Common.{◌≡◌, ◌≢◌, ◌⊎◌, Bool, true, false, cond, [], ◌∷◌, ◌++◌, Option, Some, None, refl, sym, ap, subst, ◌∙◌, inl, inr}
use Rattle.hm_tree.specs.declared.archive.State.{State}
use Rattle.hm_tree.specs.declared.archive.State.TheVariants.{Missing, Present, Marked}
use Rattle.hm_tree.specs.Names.{Name}
use Rattle.hm_tree.specs.Nodes.{Node, Tree, is_marked, below}
use Rattle.hm_tree.specs.Archives.{Archive}
use Rattle.hm_tree.specs.States.{Path, state, View, Has, Lacks, down}
use Rattle.hm_tree.proofs.States.{state_unmarked}
use Rattle.hm_safety.specs.Views.{Agree, both_present, both_missing}
use Rattle.hm_safety.specs.Safety.{IsTopmostMark}

-- ---- states

pub agree_same : {s t : State} → Agree s t → s ≡ t
agree_same both_present = refl
agree_same both_missing = refl

-- a state other than a mark agrees with itself
pub agree_itself : (s : State) → s ≢ Marked → Agree s s
agree_itself Missing n = both_missing
agree_itself Present n = both_present
agree_itself Marked n = absurd (n refl)

pub agree_of : {s t : State} → s ≡ t → s ≢ Marked → Agree s t
agree_of {s} e n = subst (Agree s) e (agree_itself s n)

pub agrees : (s t : State) → Agree s t ⊎ ¬ (Agree s t)
agrees Missing Missing = inl both_missing
agrees Present Present = inl both_present
agrees s t = inr (λ h. elim h [ ])

pub is_marked_or_not : (s : State) → (s ≡ Marked) ⊎ (s ≢ Marked)
is_marked_or_not Missing = inr (λ e. let f : ⊥ = cc in f)
is_marked_or_not Present = inr (λ e. let f : ⊥ = cc in f)
is_marked_or_not Marked = inl refl

-- a side has a path or lacks it, and not both
pub has_or_lacks : (a : Option Tree) (p : Path) → Has (state a) p ⊎ Lacks (state a) p
has_or_lacks a p = go (state a p) refl
  where
    go : (s : State) → state a p ≡ s → Has (state a) p ⊎ Lacks (state a) p
    go Missing e = inr e
    go Present e = inl e
    go Marked e = absurd (state_unmarked a p e)

pub has_and_lacks : {s : State} → s ≡ Present → s ≡ Missing → ⊥
has_and_lacks h l = cc

-- ---- paths above and below

module _ {m : Bool} where
  of_mark : (t : Node m) (p : Path) → is_marked t ≡ true → state (Some t) p ≡ Marked
  of_mark t [] e = rw e refl
  of_mark t (k ∷ p) e = rw e refl

  -- what has a path has each path above it
  pub state_above : (o : Option (Node m)) (p q : Path) → state o (p ++ q) ≡ Present → state o p ≡ Present
  state_above None p q e = e
  state_above (Some t) [] q e = go (is_marked t) refl
    where
      go : (b : Bool) → is_marked t ≡ b → cond b Marked Present ≡ Present
      go true is = sym (of_mark t q is) ∙ e
      go false is = refl
  state_above (Some t) (k ∷ p) q e = go (is_marked t) e (state_above (below k t) p q)
    where
      go : (b : Bool) → cond b Marked (state (below k t) (p ++ q)) ≡ Present
          → (state (below k t) (p ++ q) ≡ Present → state (below k t) p ≡ Present) → cond b Marked (state (below k t) p) ≡ Present
      go true e up = e
      go false e up = up e

  -- a mark reaches down
  pub state_reaches : (o : Option (Node m)) (p q : Path) → state o p ≡ Marked → state o (p ++ q) ≡ Marked
  state_reaches None p q e = e
  state_reaches (Some t) [] q e = go (is_marked t) refl e
    where
      go : (b : Bool) → is_marked t ≡ b → cond b Marked Present ≡ Marked → state (Some t) q ≡ Marked
      go true is e = of_mark t q is
      go false is e = let f : ⊥ = cc in absurd f
  state_reaches (Some t) (k ∷ p) q e = go (is_marked t) e (state_reaches (below k t) p q)
    where
      go : (b : Bool) → cond b Marked (state (below k t) p) ≡ Marked → (state (below k t) p ≡ Marked → state (below k t) (p ++ q) ≡ Marked)
          → cond b Marked (state (below k t) (p ++ q)) ≡ Marked
      go true e on = e
      go false e on = on e

-- ---- topmost marks

nothing_above : (q r : Path) → [] ≡ q ++ r → r ≡ []
nothing_above [] r e = sym e
nothing_above (k ∷ q) r e = let f : ⊥ = cc in absurd f

-- what stands above a name below a path stands at the path or above it
above_name : (p q r : Path) (k : Name) → p ++ k ∷ [] ≡ q ++ r → r ≢ [] → (w : Path) × (p ≡ q ++ w)
above_name p [] r k e n = (p, refl)
above_name [] (j ∷ q) r k e n = let rest : [] ≡ q ++ r = cc in absurd (n (nothing_above q r rest))
above_name (i ∷ p) (j ∷ q) r k e n =
    let rest : p ++ k ∷ [] ≡ q ++ r = cc in
    let up = above_name p q r k rest n in
    let first : i ≡ j = cc in
    (up.0, λ x. first x ∷ up.1 x)

-- a topmost mark at a path or above it
pub record IsUnderTopmost (archive : View) (p : Path) : Type 0 where
  pub top : Path
  pub rest : Path
  pub is : p ≡ top ++ rest
  pub mark : IsTopmostMark archive top

pub at_root : (o : View) → o [] ≡ Marked → IsTopmostMark o []
at_root o m = record { marked = m; topmost = λ q r e n. absurd (n (nothing_above q r e)) }

pub below_root : (o : View) (k : Name) (t : Path) → o [] ≢ Marked → IsTopmostMark (down (k ∷ []) o) t → IsTopmostMark o (k ∷ t)
below_root o k t root top = record { marked = top.marked; topmost = above }
  where
    above : (q r : Path) → k ∷ t ≡ q ++ r → r ≢ [] → o q ≢ Marked
    above [] r e n m = root m
    above (j ∷ q) r e n m =
        let first : j ≡ k = cc in
        let rest : t ≡ q ++ r = cc in
        top.topmost q r rest n (ap (λ i. o (i ∷ q)) (sym first) ∙ m)

pub topmost_above : (o : View) (p : Path) → o p ≡ Marked → IsUnderTopmost o p
topmost_above o [] e = record { top = []; rest = []; is = refl; mark = at_root o e }
topmost_above o (k ∷ p) e = go (is_marked_or_not (o [])) (topmost_above (down (k ∷ []) o) p e)
  where
    go : (o [] ≡ Marked) ⊎ (o [] ≢ Marked) → IsUnderTopmost (down (k ∷ []) o) p → IsUnderTopmost o (k ∷ p)
    go (inl m) u = record { top = []; rest = k ∷ p; is = refl; mark = at_root o m }
    go (inr n) u = record { top = k ∷ u.top; rest = u.rest; is = ap (λ l. k ∷ l) u.is; mark = below_root o k u.top n u.mark }

-- a mark right below a path that isn't marked is a topmost one
pub topmost_below : (o : Archive) (p : Path) (k : Name) → state o p ≢ Marked → state o (p ++ k ∷ []) ≡ Marked → IsTopmostMark (state o) (p ++ k ∷ [])
topmost_below o p k n m = record {
  marked = m;
  topmost = λ q r e not_end at.
      let up = above_name p q r k e not_end in
      n (ap (state o) up.1 ∙ state_reaches o q up.0 at);
}
