-- What stands below a node is less deep.
use Rattle.std.proofs.Common.{◌≡◌, ℕ, ◌+◌, ◌<◌, ◌≤◌, Bool, true, false, cond, List, [], ◌∷◌, length, slice_get, Some, None, sym, ap, ◌∙◌, arith, inl, inr}
use denote.Param.Weighed.{most, at_most}
use Rattle.std.specs.Ordering.{eq_by_cmp}
use Rattle.std.specs.FinMap.{find}
use Rattle.std.proofs.lemmas.Option.{get_or_from_slice_get, slice_get_cases}
use Rattle.hm_tree.specs.Names.{Name, name_cmp}
use Rattle.hm_tree.specs.Nodes.{Node, edges, depth, below}
use Rattle.hm_tree.specs.NodeLaws.{depth-edges}

in_range : {X : Type 0} (xs : List X) (i : ℕ) (x : X) → slice_get xs i ≡ Some x → i < length xs
in_range xs i x e = elim ((slice_get_cases xs i).1) [ inl w ↦ w.1 | inr w ↦ let no : Some x ≡ None = sym e ∙ w.1 in absurd (let f : ⊥ = cc in f) ]

pub depth_edge : {m : Bool} (t : Node m) (i : ℕ) (k : Name) (c : Node m) → slice_get (edges t) i ≡ Some (k, c) → depth c < depth t
depth_edge {m = m} t i k c e =
    let d = depth-edges t in
    let le = at_most (λ (e : Name × Node m). depth e.1 + 1) (edges t) i (k, c) (in_range _ _ _ e) in
    let is = get_or_from_slice_get (edges t) i (k, c) (k, c) e in
    let le2 : depth c + 1 ≤ most (λ (e : Name × Node m). depth e.1 + 1) (edges t) = rw is at le in
    omega arith

pub depth_find : {m : Bool} (k : Name) (es : List (Name × Node m)) (c : Node m) → find name_cmp k es ≡ Some c
    → depth c + 1 ≤ most (λ (e : Name × Node m). depth e.1 + 1) es
depth_find k [] c e = let f : ⊥ = cc in absurd f
depth_find {m = m} k (x ∷ es) c e = go (eq_by_cmp name_cmp k x.0) e (depth_find k es c)
  where
    go : (b : Bool) → cond b (Some x.1) (find name_cmp k es) ≡ Some c
        → (find name_cmp k es ≡ Some c → depth c + 1 ≤ most (λ (e : Name × Node m). depth e.1 + 1) es)
        → depth c + 1 ≤ most (λ (e : Name × Node m). depth e.1 + 1) (x ∷ es)
    go true p rest = let same : x.1 ≡ c = cc in let d = ap depth same in omega arith
    go false p rest = omega (arith, rest p)

pub depth_below : {m : Bool} (k : Name) (t : Node m) (c : Node m) → below k t ≡ Some c → depth c < depth t
depth_below k t c e = omega (arith, depth-edges t, depth_find k (edges t) c e)

pub ruleset falling = (depth_edge, depth_below)
