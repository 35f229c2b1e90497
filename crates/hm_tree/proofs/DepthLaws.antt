-- The depth of a tree or an archive is the length of its longest path, where a mark counts as a node without edges.
use Rattle.std.proofs.Common.{◌≡◌, ◌≢◌, ℕ, zero, suc, ◌+◌, ◌≤◌, Bool, true, false, cond, List, [], ◌∷◌, length, slice_get, Option, Some, None, refl, sym, ap, subst, ◌∙◌, arith}
use denote.Param.Weighed.{most}
use Rattle.hm_tree.specs.declared.archive.State.{State}
use Rattle.hm_tree.specs.declared.archive.State.TheVariants.{Missing, Present, Marked}
use Rattle.hm_tree.specs.Names.{Name}
use Rattle.hm_tree.specs.Nodes.{Node, Tree, depth, edges, below, is_marked}
use Rattle.hm_tree.specs.NodeLaws.{depth-edges, edges-marked}
use Rattle.hm_tree.specs.Archives.{Archive, depth_here}
use Rattle.hm_tree.specs.States.{state, Path, HasNoMarkAbove}
use Rattle.hm_tree.proofs.Sorted.{below_edge}
use Rattle.hm_tree.proofs.Depths.{depth_below}
use Rattle.hm_tree.proofs.States.{state_unmarked}
use Rattle.hm_tree.proofs.Steps.{unmarked_down, unmarked_above, above_down, above_up}

most_bound : {X : Type 0} (f : X → ℕ) (n : ℕ) (xs : List X) → ((i : ℕ) (x : X) → slice_get xs i ≡ Some x → f x ≤ n) → most f xs ≤ n
most_bound f n [] h = omega arith
most_bound f n (x ∷ xs) h = let here = h 0 x refl in let rest = most_bound f n xs (λ i y e. h (suc i) y e) in omega arith

root_stands : {m : Bool} (t : Node m) → state (Some t) [] ≢ Missing
root_stands t e = go (is_marked t) e
  where
    go : (b : Bool) → cond b Marked Present ≡ Missing → ⊥
    go true e = cc
    go false e = cc

none_above_root : {m : Bool} (t : Option (Node m)) → HasNoMarkAbove t []
none_above_root t [] r is some e = some (sym is)
none_above_root t (k ∷ q) r is some e = let no : ⊥ = cc in no

module _ {m : Bool} where
  -- an edge stands in what isn't a mark
  edge_unmarked : (t : Node m) (i : ℕ) (e : Name × Node m) → slice_get (edges t) i ≡ Some e → is_marked t ≡ false
  edge_unmarked t i e at = go (is_marked t) refl
    where
      go : (b : Bool) → is_marked t ≡ b → b ≡ false
      go false u = refl
      go true u = let no : None ≡ Some e = sym (ap (λ l. slice_get l i) (edges-marked t u)) ∙ at in let f : ⊥ = cc in absurd f

  -- no path is longer than the depth
  pub node_path_bound : (t : Node m) (p : Path) → state (Some t) p ≢ Missing → HasNoMarkAbove (Some t) p → length p ≤ depth t
  node_path_bound t [] there above = omega arith
  node_path_bound t (k ∷ p) there above =
      let down = unmarked_down t k p (unmarked_above t k p above) in
      by (λ c. node_path_bound c p) (below k t) refl (λ e. there (down ∙ e)) (above_down t k p above)
    where
      by : ((c : Node m) → state (Some c) p ≢ Missing → HasNoMarkAbove (Some c) p → length p ≤ depth c)
          → (b : Option (Node m)) → below k t ≡ b → state (below k t) p ≢ Missing → HasNoMarkAbove (below k t) p → length (k ∷ p) ≤ depth t
      by lower None is there above = absurd (there (ap (λ z. state z p) is))
      by lower (Some c) is there above =
          let less = depth_below k t c is in
          let rest = lower c (λ e. there (ap (λ z. state z p) is ∙ e)) (subst (λ z. HasNoMarkAbove z p) is above) in
          omega arith

  edge_bound : (t : Node m) (n : ℕ) → ((p : Path) → state (Some t) p ≢ Missing → HasNoMarkAbove (Some t) p → length p ≤ n)
      → (i : ℕ) (k : Name) (c : Node m) → slice_get (edges t) i ≡ Some (k, c)
      → (p : Path) → state (Some c) p ≢ Missing → HasNoMarkAbove (Some c) p → length p + 1 ≤ n
  edge_bound t n h i k c at p there above =
      let u = edge_unmarked t i (k, c) at in
      let is = below_edge t i k c at in
      let same : state (Some t) (k ∷ p) ≡ state (Some c) p = unmarked_down t k p u ∙ ap (λ z. state z p) is in
      let l = h (k ∷ p) (λ e. there (sym same ∙ e)) (above_up t k p u (subst (λ z. HasNoMarkAbove z p) (sym is) above)) in
      omega arith

  -- a bound of all paths is one of the depth
  pub node_depth_bound : (n : ℕ) (t : Node m) → ((p : Path) → state (Some t) p ≢ Missing → HasNoMarkAbove (Some t) p → length p ≤ n) → depth t ≤ n
  node_depth_bound zero t h =
      let d = depth-edges t in
      let l = most_bound (λ (e : Name × Node m). depth e.1 + 1) 0 (edges t) (λ i e at.
      let no = edge_bound t 0 h i e.0 e.1 at [] (root_stands e.1) (none_above_root (Some e.1)) in absurd (omega arith)) in
      omega arith
  node_depth_bound (suc n) t h =
      let d = depth-edges t in
      let l = most_bound (λ (e : Name × Node m). depth e.1 + 1) (suc n) (edges t) (λ i e at.
      let below = node_depth_bound n e.1 (λ p there above. let one = edge_bound t (suc n) h i e.0 e.1 at p there above in omega arith) in
      omega arith) in
      omega arith

-- ---- trees, which have no marks

pub path_bound : (t : Tree) (p : Path) → state (Some t) p ≡ Present → length p ≤ depth t
path_bound t p has = node_path_bound t p (λ e. let no : Present ≡ Missing = sym has ∙ e in cc) (λ q r is some e. state_unmarked (Some t) q e)

pub depth_bound : (t : Tree) (n : ℕ) → ((p : Path) → state (Some t) p ≡ Present → length p ≤ n) → depth t ≤ n
depth_bound t n h = node_depth_bound n t (λ p there above. h p (present p (state (Some t) p) refl there))
  where
    present : (p : Path) (s : State) → state (Some t) p ≡ s → state (Some t) p ≢ Missing → state (Some t) p ≡ Present
    present p Missing is there = absurd (there is)
    present p Marked is there = absurd (state_unmarked (Some t) p is)
    present p Present is there = is

-- ---- archives

pub archive_path_bound : (o : Archive) (p : Path) → state o p ≢ Missing → HasNoMarkAbove o p → length p ≤ depth_here o
archive_path_bound None p there above = absurd (there refl)
archive_path_bound (Some t) p there above = node_path_bound t p there above

pub archive_depth_bound : (o : Archive) (n : ℕ) → ((p : Path) → state o p ≢ Missing → HasNoMarkAbove o p → length p ≤ n) → depth_here o ≤ n
archive_depth_bound None n h = omega arith
archive_depth_bound (Some t) n h = node_depth_bound n t h
