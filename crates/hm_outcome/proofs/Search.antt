-- A tree has finitely many paths: what can be tested at each path holds at all of them, or fails at one that is found.
use Rattle.std.proofs.Common.{◌≡◌, ◌≢◌, ◌⊎◌, ℕ, zero, suc, ◌<◌, Bool, true, false, cond, List, [], ◌∷◌, Option, Some, None, refl, sym, ap, subst, ◌∙◌, inl, inr, arith}
use Rattle.std.specs.Ordering.{eq_by_cmp}
use Rattle.std.specs.FinMap.{find}
use Rattle.hm_tree.specs.declared.archive.State.{State}
use Rattle.hm_tree.specs.declared.archive.State.TheVariants.{Missing, Present, Marked}
use Rattle.hm_tree.specs.Names.{Name, name_cmp}
use Rattle.hm_tree.specs.Nodes.{Tree, below, edges, depth}
use Rattle.hm_tree.specs.Archives.{Archive}
use Rattle.hm_tree.specs.States.{Path, state, Has}
use Rattle.hm_tree.proofs.Depths.{depth_below}
use Rattle.hm_tree.proofs.States.{state_root, state_down}
use Rattle.hm_tree.proofs.Extent.{same_tree}
use Rattle.hm_safety.specs.Views.{Agree, both_present, both_missing}
use Rattle.hm_schema.proofs.NamesOf.{tie_one}
use Rattle.hm_outcome.proofs.Marks.{has_or_lacks, has_and_lacks}

-- it holds at each path that a side has
abbrev Throughout : (Path → Type 0) → Option Tree → Type 0
Throughout P a = (p : Path) → Has (state a) p → P p

-- it fails at a path that a side has
abbrev FailsIn : (Path → Type 0) → Option Tree → Type 0
FailsIn P a = (p : Path) × Has (state a) p × ¬ (P p)

-- what holds at each name of a list, or else something else does
over : {A : Name → Type 0} {B : Type 0} → ((k : Name) → A k ⊎ B) → (es : List (Name × Tree))
    → ((k : Name) (c : Tree) → find name_cmp k es ≡ Some c → A k) ⊎ B
over test [] = inl (λ k c e. let f : ⊥ = cc in absurd f)
over {A = A} {B = B} test (x ∷ es) =
    elim (test x.0) [
      | inr b ↦ inr b
      | inl a ↦ elim (over {A = A} test es)
          [ inr b ↦ inr b | inl r ↦ inl (λ k c e. go a r k c (eq_by_cmp name_cmp k x.0) refl e) ]
    ]
  where
    go : A x.0 → ((k : Name) (c : Tree) → find name_cmp k es ≡ Some c → A k) → (k : Name) (c : Tree) (b : Bool) → eq_by_cmp name_cmp k x.0 ≡ b
        → cond b (Some x.1) (find name_cmp k es) ≡ Some c → A k
    go a r k c true is e = subst A (sym (tie_one k x.0 is)) a
    go a r k c false is e = r k c e

-- by the depth of the tree
upto : (n : ℕ) (t : Tree) → depth t < n → (P : Path → Type 0) → ((p : Path) → P p ⊎ ¬ (P p)) → Throughout P (Some t) ⊎ FailsIn P (Some t)
upto zero t h P test = absurd (omega arith)
upto (suc n) t h P test =
    elim (test []) [
      | inr f ↦ inr ([], state_root t, f)
      | inl here ↦ elim
          (over {A = λ k. Throughout (λ p. P (k ∷ p)) (below k t)} (λ k. at (λ c l Q. upto n c l Q) k (below k t) refl) (edges t))
          [ inr b ↦ inr b | inl r ↦ inl (all here r) ]
    ]
  where
    at : ((c : Tree) → depth c < n → (Q : Path → Type 0) → ((p : Path) → Q p ⊎ ¬ (Q p)) → Throughout Q (Some c) ⊎ FailsIn Q (Some c))
        → (k : Name) (a : Option Tree) → below k t ≡ a → Throughout (λ p. P (k ∷ p)) (below k t) ⊎ FailsIn P (Some t)
    at trees k None is = inl (λ p h. absurd (has_and_lacks h (ap (λ a. state a p) is)))
    at trees k (Some c) is = elim (trees c (let l = depth_below k t c is in omega arith) (λ p. P (k ∷ p)) (λ p. test (k ∷ p))) [
      | inl r ↦ inl (λ p h. r p (sym (ap (λ a. state a p) is) ∙ h))
      | inr f ↦ inr (k ∷ f.0, state_down t k f.0 ∙ ap (λ a. state a f.0) is ∙ f.1, f.2)
    ]

    all : P [] → ((k : Name) (c : Tree) → below k t ≡ Some c → Throughout (λ p. P (k ∷ p)) (below k t)) → Throughout P (Some t)
    all here r [] h = here
    all here r (k ∷ p) h = go (below k t) refl
      where
        go : (a : Option Tree) → below k t ≡ a → P (k ∷ p)
        go None is = absurd (has_and_lacks h (state_down t k p ∙ ap (λ a. state a p) is))
        go (Some c) is = r k c is p (sym (state_down t k p) ∙ h)

pub search : (t : Tree) (P : Path → Type 0) → ((p : Path) → P p ⊎ ¬ (P p))
    → ((p : Path) → Has (state (Some t)) p → P p) ⊎ ((p : Path) × Has (state (Some t)) p × ¬ (P p))
search t P test = upto (suc (depth t)) t (omega arith) P test

pub is_present : (s : State) → s ≡ Present ⊎ s ≢ Present
is_present Missing = inr (λ e. let f : ⊥ = cc in f)
is_present Present = inl refl
is_present Marked = inr (λ e. let f : ⊥ = cc in f)

-- a tree is within an archive, or has a path that isn't present there
pub within_or_news : (t : Tree) (o : Archive) → ((p : Path) → Has (state (Some t)) p → state o p ≡ Present)
    ⊎ ((p : Path) × Has (state (Some t)) p × (state o p ≢ Present))
within_or_news t o = search t (λ p. state o p ≡ Present) (λ p. is_present (state o p))

pub agree_has : {s t : State} → Agree s t → s ≡ Present → t ≡ Present
agree_has both_present e = refl
agree_has both_missing e = e

pub has_agree : {s t : State} → Agree s t → t ≡ Present → s ≡ Present
has_agree both_present e = refl
has_agree both_missing e = e

-- two trees are equal, or don't agree somewhere
pub same_or_differ : (t u : Tree) → (t ≡ u) ⊎ ((p : Path) × ¬ (Agree (state (Some t) p) (state (Some u) p)))
same_or_differ t u = elim (search t (λ p. Has (state (Some u)) p) (λ p. is_present (state (Some u) p))) [
  | inr f ↦ inr (f.0, λ a. f.2 (agree_has a f.1))
  | inl there ↦ elim (search u (λ p. Has (state (Some t)) p) (λ p. is_present (state (Some t) p))) [
    | inr f ↦ inr (f.0, λ a. f.2 (has_agree a f.1))
    | inl back ↦ inl (same_tree t u (λ p. same there back p))
  ]
]
  where
    same : ((p : Path) → Has (state (Some t)) p → Has (state (Some u)) p) → ((p : Path) → Has (state (Some u)) p → Has (state (Some t)) p)
        → (p : Path) → state (Some t) p ≡ state (Some u) p
    same there back p = elim (has_or_lacks (Some t) p) [
      | inl h ↦ h ∙ sym (there p h)
      | inr l ↦ elim (has_or_lacks (Some u) p) [ inl g ↦ absurd (has_and_lacks (back p g) l) | inr k ↦ l ∙ sym k ]
    ]
