-- Laws of nodes: a node and its edges determine one another, and children are less deep.
use Rattle.std.specs.Prelude.{◌≡◌, ℕ, ◌+◌, ◌≤◌, max, Bool, true, false, ◌&&◌, T, List, [], ◌∷◌, ◌++◌, refl, None}
use Rattle.std.proofs.Common.{sym, ap, subst, ◌∙◌, arith, append_assoc}
use Rattle.std.specs.Ordering.{is_lt}
use Rattle.std.specs.FinMap.{is_sorted, find}
use denote.Param.Weighed.{most}
use mathlib.Core.HLevel.{Σ_prop_path}
use mathlib.Core.Bool.{true≢false}
use lib.Dec.{T_prop}
use Rattle.std.specs.Coded.{Coded, coded_ℕ, coded_list}
use base.Stored.{coded_via}
use Rattle.std.specs.Str.{is_utf8}
use Rattle.hm_tree.specs.Names.{Name, name_cmp}
use Rattle.hm_tree.specs.Nodes.{Shape, bare, mark, edge, above, leads, is_node, are_texts, are_edges, edges_from, Node, Tree, depth_of, is_mark, both, first, second, below_all, depth, is_marked, edges_of, edges, joined, empty, checked, node, below, marked, deepest}

nowhere : (m : Bool) → T (m && false) → ⊥
nowhere true h = h
nowhere false h = h

module _ {m : Bool} where
  pub same_node : (t u : Node m) → t.shape ≡ u.shape → t ≡ u
  same_node t u e =
      let pairs : ◌≡◌ {A = (s : Shape) × T (is_node m true s)} (t.shape, t.sound) (u.shape, u.sound) = Σ_prop_path (λ s. T_prop _) e in
      λ i. record { shape = (pairs i).0; sound = (pairs i).1 }

  edges_joined : (w : Bool) (es : List (Name × Node m)) (h : T (is_node m w (joined es))) → edges_of w (joined es) h ≡ es
  unfolding joined edges_of
  edges_joined w [] h = refl
  edges_joined w (e ∷ es) h =
      λ i. (e.0, same_node (record { shape = e.1.shape; sound = first _ _ (second (leads e.0 (joined es)) _ h) }) e.1 refl i) ∷ edges_joined
      false es (second (is_node m true e.1.shape) _ (second (leads e.0 (joined es)) _ h)) i

  edges_checked : (es : List (Name × Node m)) (b : Bool) (e : are_edges es ≡ b) → T b → edges (checked es b e) ≡ es
  unfolding checked edges
  edges_checked es true e h = edges_joined true es _
  edges_checked es false e h = absurd h

  -- the edges of the node that has these edges are these
  pub edges-node : (es : List (Name × Node m)) → T (are_edges es) → edges (node es) ≡ es
  unfolding node
  edges-node es h = edges_checked es _ refl h

module _ (m : Bool) where
  above_edges : (x : Name) (w : Bool) (s : Shape) (h : T (is_node m w s)) → above x s ≡ below_all x (edges_of {m = m} w s h)
  unfolding edges_of
  above_edges x w bare h = refl
  above_edges x w mark h = refl
  above_edges x w (edge n c r) h = λ i. is_lt (name_cmp x n) && above_edges x false r (second (is_node m true c) _ (second (leads n r) _ h)) i

  edges_of_sorted : (w : Bool) (s : Shape) (h : T (is_node m w s)) → T (is_sorted name_cmp (edges_of {m = m} w s h))
  unfolding edges_of
  edges_of_sorted w bare h = tt
  edges_of_sorted w mark h = tt
  edges_of_sorted w (edge n c r) h =
      let rest = second (is_node m true c) _ (second (leads n r) _ h) in
      both _ _ (subst T (above_edges n false r rest) (second (is_utf8 n) _ (first _ _ h))) (edges_of_sorted false r rest)

  edges_of_texts : (w : Bool) (s : Shape) (h : T (is_node m w s)) → T (are_texts (edges_of {m = m} w s h))
  unfolding edges_of
  edges_of_texts w bare h = tt
  edges_of_texts w mark h = tt
  edges_of_texts w (edge n c r) h =
      both _ _ (first _ _ (first (leads n r) _ h)) (edges_of_texts false r (second (is_node m true c) _ (second (leads n r) _ h)))

  inside : (s : Shape) → T (is_node m false s) → is_mark s ≡ false
  inside bare h = refl
  inside mark h = absurd (nowhere m h)
  inside (edge n c r) h = refl

  joined_edges : (w : Bool) (s : Shape) (h : T (is_node m w s)) → is_mark s ≡ false → joined (edges_of {m = m} w s h) ≡ s
  unfolding joined edges_of
  joined_edges w bare h u = refl
  joined_edges w mark h u = absurd (true≢false u)
  joined_edges w (edge n c r) h u =
      let rest = second (is_node m true c) _ (second (leads n r) _ h) in
      ap (edge n c) (joined_edges false r rest (inside r rest))

module _ {m : Bool} where
  -- names rise
  pub edges_sorted : (t : Node m) → T (is_sorted name_cmp (edges t))
  unfolding edges
  edges_sorted t = edges_of_sorted m true t.shape t.sound

  -- names rise and are UTF-8
  pub edges_are : (t : Node m) → T (are_edges (edges t))
  unfolding edges
  edges_are t = edges_from (edges t) (edges_of_sorted m true t.shape t.sound) (edges_of_texts m true t.shape t.sound)

  pub shape_checked : (es : List (Name × Node m)) (b : Bool) (e : are_edges es ≡ b) → T b → (checked es b e).shape ≡ joined es
  unfolding checked
  shape_checked es true e h = refl
  shape_checked es false e h = absurd h

  -- the node that has the edges of a node is that node
  pub node-edges : (t : Node m) → is_marked t ≡ false → node (edges t) ≡ t
  unfolding node is_marked edges
  node-edges t u = same_node (node (edges t)) t (shape_checked (edges t) _ refl (edges_are t) ∙ joined_edges m true t.shape t.sound u)

  -- two nodes that aren't marked are equal where their edges are
  pub same_edges : (t u : Node m) → is_marked t ≡ false → is_marked u ≡ false → edges t ≡ edges u → t ≡ u
  same_edges t u a b e = sym (node-edges t a) ∙ ap node e ∙ node-edges u b

  depth_joined : (es : List (Name × Node m)) → deepest es ≡ depth_of (joined es)
  unfolding joined depth
  depth_joined [] = refl
  depth_joined (e ∷ es) = ap (max (depth_of e.1.shape + 1)) (depth_joined es)

  pub depth-node : (es : List (Name × Node m)) → T (are_edges es) → depth (node es) ≡ deepest es
  unfolding node depth
  depth-node es h = ap depth_of (shape_checked es _ refl h) ∙ sym (depth_joined es)

  most_le : (f : Name × Node m → ℕ) → ((e : Name × Node m) → f e ≤ depth e.1 + 1) → (es : List (Name × Node m)) → most f es ≤ deepest es
  most_le f h [] = omega arith
  most_le f h (e ∷ es) = omega (arith, h e, most_le f h es)

  -- a measure that is at most one more than the depth of each child is at most the depth of the node
  pub falls : (f : Name × Node m → ℕ) → ((e : Name × Node m) → f e ≤ depth e.1 + 1) → (es : List (Name × Node m)) → T (are_edges es)
      → max (most f es) 0 ≤ depth (node es)
  falls f h es s = let e = depth-node es s in let l = most_le f h es in omega arith

  marked_checked : (es : List (Name × Node m)) (b : Bool) (e : are_edges es ≡ b) → is_marked (checked es b e) ≡ false
  unfolding checked joined is_marked empty
  marked_checked [] true e = refl
  marked_checked (x ∷ es) true e = refl
  marked_checked es false e = refl

  pub is_marked-node : (es : List (Name × Node m)) → is_marked (node es) ≡ false
  unfolding node
  is_marked-node es = marked_checked es _ refl

node_nothing : (m : Bool) → (node {m = m} []).shape ≡ (empty {m = m}).shape
unfolding node checked joined empty
node_nothing m = refl

pub node-nil : {m : Bool} (es : List (Name × Node m)) → es ≡ [] → node es ≡ empty
node-nil {m = m} es e = ap node e ∙ same_node (node []) empty (node_nothing m)

pub edges_empty : {m : Bool} → edges (empty {m = m}) ≡ []
edges_empty {m = m} = ap edges (sym (node-nil {m = m} [] refl)) ∙ edges-node [] tt

-- the depth of a node by its edges
deepest_edges : (m w : Bool) (s : Shape) (h : T (is_node m w s)) → deepest (edges_of {m = m} w s h) ≡ depth_of s
unfolding edges_of depth
deepest_edges m w bare h = refl
deepest_edges m w mark h = refl
deepest_edges m w (edge n c r) h = ap (max (depth_of c + 1)) (deepest_edges m false r (second (is_node m true c) _ (second (leads n r) _ h)))

pub depth-edges : {m : Bool} (t : Node m) → depth t ≡ deepest (edges t)
unfolding edges depth
depth-edges {m = m} t = sym (deepest_edges m true t.shape t.sound)

-- a tree has no mark
pub tree_unmarked : (t : Tree) → is_marked t ≡ false
unfolding is_marked
tree_unmarked t = by t.shape t.sound
  where
    by : (s : Shape) → T (is_node false true s) → is_mark s ≡ false
    by bare h = refl
    by mark h = absurd h
    by (edge n c r) h = refl

pub marked_is : is_marked marked ≡ true
unfolding marked is_marked
marked_is = refl

marked_edges : (m w : Bool) (s : Shape) (h : T (is_node m w s)) → is_mark s ≡ true → edges_of {m = m} w s h ≡ []
unfolding edges_of
marked_edges m w bare h e = refl
marked_edges m w mark h e = refl
marked_edges m w (edge n c r) h e = absurd (true≢false (sym e))

-- nothing stands below a mark
pub edges-marked : {m : Bool} (t : Node m) → is_marked t ≡ true → edges t ≡ []
unfolding edges is_marked
edges-marked {m = m} t e = marked_edges m true t.shape t.sound e

pub marked_below : {m : Bool} (t : Node m) (k : Name) → is_marked t ≡ true → below k t ≡ None
marked_below t k e = ap (find name_cmp k) (edges-marked t e)

-- ---- a code, by which the logic knows values of a type as lists of numbers: the shape in one line of words, of which no
-- shape's is the beginning of another's

abbrev pub flat : Shape → List Name
flat bare = [] ∷ []
flat mark = (0 ∷ []) ∷ []
flat (edge n c r) = (0 ∷ 0 ∷ n) ∷ (flat c ++ flat r)

flat_apart : (a b : Shape) (x y : List Name) → flat a ++ x ≡ flat b ++ y → (a ≡ b) × (x ≡ y)
flat_apart bare bare x y e = (refl, cc)
flat_apart bare mark x y e = let no : ⊥ = cc in absurd no
flat_apart bare (edge n c r) x y e = let no : ⊥ = cc in absurd no
flat_apart mark bare x y e = let no : ⊥ = cc in absurd no
flat_apart mark mark x y e = (refl, cc)
flat_apart mark (edge n c r) x y e = let no : ⊥ = cc in absurd no
flat_apart (edge n c r) bare x y e = let no : ⊥ = cc in absurd no
flat_apart (edge n c r) mark x y e = let no : ⊥ = cc in absurd no
flat_apart (edge n c r) (edge n2 c2 r2) x y e =
    let names : n ≡ n2 = cc in
    let rest : (flat c ++ flat r) ++ x ≡ (flat c2 ++ flat r2) ++ y = cc in
    let one = flat_apart c c2 (flat r ++ x) (flat r2 ++ y) (sym (append_assoc (flat c) (flat r) x) ∙ rest ∙ append_assoc (flat c2) (flat r2) y) in
    let two = flat_apart r r2 x y one.1 in
    ((λ i. edge (names i) (one.0 i) (two.0 i)), two.1)

pub flat_one : (m : Bool) (t u : Node m) → flat t.shape ≡ flat u.shape → t ≡ u
flat_one m t u e = same_node t u (flat_apart t.shape u.shape [] [] (ap (λ l. l ++ []) e)).0

abbrev pub node_code : (m : Bool) → Coded (Node m)
node_code m = coded_via (coded_list (coded_list coded_ℕ)) (λ t. flat t.shape) (flat_one m)
