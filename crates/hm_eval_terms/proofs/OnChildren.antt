-- Lenses on the children of a tree.
use Rattle.std.proofs.Common.{◌≡◌, ◌⊎◌, inl, inr, ℕ, zero, suc, T, Box, Vec, List, [], ◌∷◌, map, All, Option, Some, None, slice_get, refl, sym, ap, subst, ◌∙◌}
use Rattle.std.specs.Borrow.{Bor}
use Rattle.std.specs.declared.alloc.Global.{Global}
use Rattle.std.proofs.lemmas.Option.{same_Some, none-some}
use Rattle.std.proofs.lemmas.List.Elements.{All-head, All-tail}
use Rattle.hm_tree.specs.Names.{Name}
use Rattle.hm_tree.specs.Nodes.{Tree, node, edges, below, are_edges}
use Rattle.hm_tree.specs.NodeLaws.{edges_are}
use Rattle.hm_tree.proofs.Sorted.{below_edge}
use Rattle.hm_terms.specs.declared.term.Term.{Term, Map, Each}
use Rattle.hm_terms.specs.Lenses.{Lens, lens_at, Setting}
use Rattle.hm_terms.specs.Programs.{lens_of}
use Rattle.hm_terms.specs.Shown.{Shows, by_each, by_among}
use Rattle.hm_tree_parts.proofs.Maps.{beside}
use Rattle.hm_terms.proofs.Rows.{each_items}
use Rattle.hm_eval_terms.specs.declared.children.Child.{Child}
use Rattle.hm_eval_terms.specs.Terms.{option_lens}
use Rattle.hm_eval_terms.specs.Conditions.{IsShown}
use Rattle.hm_eval_terms.specs.Children.{lens_for, edge_of, AreChildren, IsOnChildren, on_each, on_among}
use Rattle.hm_eval_terms.proofs.Paired.{Paired, no_more, one_more}
use Rattle.hm_eval_terms.proofs.Beside.{NamedBy, beside_edges, IsBesideTree, beside_tree}

pub on_children : (t : Term) → ((b : Box Term Global) × (t ≡ Map b)) ⊎ ((v : Vec (Name × Term) Global) × (t ≡ Each v)) → IsOnChildren (lens_of t)
on_children t (inl w) = subst IsOnChildren (sym (ap lens_of w.1)) on_each
on_children t (inr w) = subst IsOnChildren (sym (ap lens_of w.1 ∙ each_items w.0)) on_among

abbrev HasLens : Lens → Name × Child → Type 0
HasLens z e = option_lens e.1.lens ≡ lens_for z e.0

-- the edges that a loop makes, beside those that it takes
module _ (z : Lens) (Over : Name × Child → Name × Tree → Type 0) (R : Name → Tree → Tree → Type 0)
    (over : (e : Name × Child) (f : Name × Tree) → option_lens e.1.lens ≡ lens_for z e.0 → Over e f → NamedBy R (edge_of e) f) where
  all_over : (es : List (Name × Child)) (fs : List (Name × Tree)) → All (HasLens z) es → Paired Over es fs
      → Paired (NamedBy R) (map edge_of es) fs
  all_over [] [] all p = no_more
  all_over [] (f ∷ fs) all p = elim p [ ]
  all_over (e ∷ es) [] all p = elim p [ ]
  all_over (e ∷ es) (f ∷ fs) all (one_more r p) = one_more (over e f (All-head (HasLens z) e es all) r) (all_over es fs (All-tail (HasLens z) e es all) p)

  pub over_edges : (c : Tree) (es xs : List (Name × Child)) (fs : List (Name × Tree)) → AreChildren z c es → xs ≡ es → Paired Over xs fs
      → Paired (NamedBy R) (edges c) fs
  over_edges c es xs fs are taken p =
      subst (λ l. Paired (NamedBy R) l fs) are.edges (all_over es fs are.lenses (subst (λ l. Paired Over l fs) taken p))

-- the child that a loop takes next, and its lens
pub child_at : (z : Lens) (c : Tree) (es : List (Name × Child)) (i : ℕ) (k : Name) (x : Child) → AreChildren z c es → slice_get es i ≡ Some (k, x)
    → below k c ≡ Some x.tree
child_at z c es i k x are at = below_edge c i k x.tree (ap (λ l. slice_get l i) (sym are.edges) ∙ mapped es i at)
  where
    mapped : (es : List (Name × Child)) (i : ℕ) → slice_get es i ≡ Some (k, x) → slice_get (map edge_of es) i ≡ Some (k, x.tree)
    mapped [] i e = absurd (none-some (k, x) e)
    mapped (e ∷ es) zero is = ap (λ (e : Name × Child). Some (edge_of e)) (same_Some e (k, x) is)
    mapped (e ∷ es) (suc i) is = mapped es i is

pub lens_here : (z : Lens) (c : Tree) (es : List (Name × Child)) (i : ℕ) (k : Name) (x : Child) → AreChildren z c es → slice_get es i ≡ Some (k, x)
    → option_lens x.lens ≡ lens_for z k
lens_here z c es i k x are at = go es i are.lenses at
  where
    go : (es : List (Name × Child)) (i : ℕ) → All (HasLens z) es → slice_get es i ≡ Some (k, x)
        → option_lens x.lens ≡ lens_for z k
    go [] i all e = absurd (none-some (k, x) e)
    go (e ∷ es) zero all is = subst (HasLens z) (same_Some e (k, x) is) (All-head (HasLens z) e es all)
    go (e ∷ es) (suc i) all is = go es i (All-tail (HasLens z) e es all) is

-- ---- shown

-- what is shown of a child by the lens for it, if there is one
abbrev pub ShowsBy : Setting → Option Lens → Tree → Tree → Type 0
ShowsBy S None x y = y ≡ x
ShowsBy S (Some l) x y = Shows S l x y

pub record IsShownChild (S : Setting) (e : Name × Child) (f : Name × Tree) : Type 0 where
  pub name : e.0 ≡ f.0
  pub shown : ShowsBy S (option_lens e.1.lens) e.1.tree f.1

module _ (S : Setting) where
  abbrev ShowsFor : Lens → Name → Tree → Tree → Type 0
  ShowsFor z k x y = ShowsBy S (lens_for z k) x y

  shows_over : (z : Lens) → IsOnChildren z → (c v : Tree) → Shows S z c v → IsBesideTree (ShowsFor z) c v
  shows_over z on_each c v (by_each e f) = record { same = e; each = f }
  shows_over z (on_among {ls = ls}) c v (by_among e f o) = record { same = e; each = λ k x y at there. go k x y (lens_at k ls) refl at there }
    where
      go : (k : Name) (x y : Tree) (l : Option Lens) → lens_at k ls ≡ l → below k c ≡ Some x → below k v ≡ Some y → ShowsBy S (lens_at k ls) x y
      go k x y None none at there = subst (λ l. ShowsBy S l x y) (sym none) (same_Some y x (sym there ∙ o k none ∙ at))
      go k x y (Some l) some at there = subst (λ l. ShowsBy S l x y) (sym some) (f k l x y some at there)

  shows_of : (z : Lens) → IsOnChildren z → (c v : Tree) → IsBesideTree (ShowsFor z) c v → Shows S z c v
  shows_of z on_each c v b = by_each b.same b.each
  shows_of z (on_among {ls = ls}) c v b = by_among b.same (λ k l x y some at there. subst (λ l. ShowsBy S l x y) some (b.each k x y at there))
      (λ k none. go k none (below k c) (below k v) refl refl)
    where
      go : (k : Name) → lens_at k ls ≡ None → (x y : Option Tree) → below k c ≡ x → below k v ≡ y → below k v ≡ below k c
      go k none None None at there = there ∙ sym at
      go k none None (Some y) at there = let w = beside v c (sym b.same) k y there in absurd (none-some w.0 (sym at ∙ w.1))
      go k none (Some x) None at there = let w = beside c v b.same k x at in absurd (none-some w.0 (sym there ∙ w.1))
      go k none (Some x) (Some y) at there = there ∙ ap Some (subst (λ l. ShowsBy S l x y) none (b.each k x y at there)) ∙ sym at

  shown_over : (z : Lens) (e : Name × Child) (f : Name × Tree) → option_lens e.1.lens ≡ lens_for z e.0 → IsShownChild S e f
      → NamedBy (ShowsFor z) (edge_of e) f
  shown_over z e f lens is = record { name = is.name; is = subst (λ l. ShowsBy S l e.1.tree f.1) lens is.shown }

  module _ (z : Lens) (c : Tree) (es : List (Name × Child)) (on : IsOnChildren z) (are : AreChildren z c es) where
    pub child_shown : (i : ℕ) (k : Name) (x : Child) (t : Bor Term) → slice_get es i ≡ Some (k, x) → x.lens ≡ Some t → IsShown S z c
        → IsShown S (lens_of t.now) x.tree
    child_shown i k x t at some h =
        let b = shows_over z on c h.tree h.is in
        let there = child_at z c es i k x are at in
        let y = beside c h.tree b.same k x.tree there in
        record {
          tree = y.0;
          is = subst (λ l. ShowsBy S l x.tree y.0) (sym (lens_here z c es i k x are at) ∙ ap option_lens some) (b.each k x.tree y.0 there y.1);
        }

    module _ (xs : List (Name × Child)) (fs : List (Name × Tree)) (taken : xs ≡ es) (p : Paired (IsShownChild S) xs fs) where
      pub shown_edges : T (are_edges fs)
      shown_edges = beside_edges (over_edges z (IsShownChild S) (ShowsFor z) (shown_over z) c es xs fs are taken p) (edges_are c)

      pub children_show : (v : Tree) → v ≡ node fs → Shows S z c v
      children_show v is = subst (Shows S z c) (sym is)
          (shows_of z on c (node fs) (beside_tree (ShowsFor z) c fs (over_edges z (IsShownChild S) (ShowsFor z) (shown_over z) c es xs fs are taken p)))

  pub shown_by_lens : (o : Option (Bor Term)) (t : Bor Term) (x y v : Tree) → o ≡ Some t → v ≡ y → Shows S (lens_of t.now) x y → ShowsBy S (option_lens o) x v
  shown_by_lens o t x y v some is s = subst (λ o. ShowsBy S (option_lens o) x v) (sym some) (subst (Shows S (lens_of t.now) x) (sym is) s)

  pub shown_by_none : (o : Option (Bor Term)) (x v : Tree) → o ≡ None → v ≡ x → ShowsBy S (option_lens o) x v
  shown_by_none o x v none is = subst (λ o. ShowsBy S (option_lens o) x v) (sym none) is
