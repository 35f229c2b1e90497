-- The depth that edges make, after an edit.
use Rattle.std.proofs.Common.{◌≡◌, ℕ, suc, ◌+◌, ◌<◌, ◌≤◌, max, Bool, List, [], ◌∷◌, ◌++◌, length, take, drop, get_or, drop-cons, sym, ap, ◌∙◌, arith, T}
use denote.Param.Weighed.{most}
use Rattle.std.specs.List.{insert, remove}
use Rattle.std.proofs.lemmas.List.{take-append-drop, take_more}
use Rattle.hm_tree.specs.Names.{Name}
use Rattle.hm_tree.specs.Nodes.{Node, depth, node, are_edges, edges, deepest}
use Rattle.hm_tree.specs.NodeLaws.{depth-node}
use Rattle.hm_tree.specs.Edges.{IsKeptTree}
use Rattle.hm_tree.proofs.Sorted.{edges_seen}

module _ {X : Type 0} (f : X → ℕ) where
  pub most_joined : (xs ys : List X) → most f (xs ++ ys) ≡ max (most f xs) (most f ys)
  most_joined [] ys = omega arith
  most_joined (x ∷ xs) ys = omega (arith, most_joined xs ys)

  pub most_insert : (xs : List X) (i : ℕ) (x : X) → most f (insert xs i x) ≡ max (most f xs) (f x)
  most_insert xs i x =
      let a = most_joined (take i xs) (x ∷ drop i xs) in
      let b = most_joined (take i xs) (drop i xs) in
      let c = ap (most f) (take-append-drop i xs) in
      omega arith

  pub most_more : (xs : List X) (i : ℕ) (x : X) → i < length xs → most f (take (i + 1) xs) ≡ max (most f (take i xs)) (f (get_or xs i x))
  most_more xs i x lt =
      let a = most_joined (take i xs) (get_or xs i x ∷ []) in
      let b = ap (most f) (take_more xs i x lt) in
      omega arith

  pub most_taken : (xs : List X) (i : ℕ) → most f (take i xs) ≤ most f xs
  most_taken xs i =
      let a = most_joined (take i xs) (drop i xs) in
      let b = ap (most f) (take-append-drop i xs) in
      omega arith

  pub most_remove : (xs : List X) (i : ℕ) (x : X) → i < length xs → most f xs ≡ max (most f (remove xs i)) (f (get_or xs i x))
  most_remove xs i x lt =
      let a = most_joined (take i xs) (drop (suc i) xs) in
      let b = most_joined (take i xs) (get_or xs i x ∷ drop (suc i) xs) in
      let c = ap (most f) (take-append-drop i xs) in
      let d = ap (λ l. most f (take i xs ++ l)) (drop-cons xs i x lt) in
      omega arith

pub depth_kept : {m : Bool} (es : List (Name × Node m)) (t : Node m) → T (are_edges es) → node es ≡ t → depth t ≡ deepest es
depth_kept es t h e = ap depth (sym e) ∙ depth-node es h

-- the depth that is kept is that of the edge taken out, whose child keeps b, or of the edges left
pub depth_left : {m : Bool} (es left bs : List (Name × Node m)) (t : Node m) (i d b : ℕ) (e : Name × Node m) → IsKeptTree es d → node es ≡ t
    → i < length (edges t) → e ≡ get_or es i e → left ≡ remove es i → IsKeptTree bs b → node bs ≡ e.1 → d ≡ max (deepest left) (b + 1)
depth_left {m = m} es left bs t i d b e kept seen within read is child child_seen =
    let f = λ (x : Name × Node m). depth x.1 + 1 in
    let same = ap length (edges_seen es t kept.edges seen) in
    let a = most_remove f es i e (omega arith) in
    let r = ap f read in
    let l = ap (most f) is in
    let n = depth_kept bs e.1 child.edges child_seen in
    omega (arith, kept.deep, child.deep)
