-- A tree is a finite map from names to trees; in an archive some places are marked instead of holding a tree.
-- This is the value of both (JCSS 2007, section 2):
--     Node m         a node; marks may stand in it and below it where m is true
--     edges t        its edges, in the order of their names;       node es     the node with these edges
--     below k t      what stands under the name k, if anything;    empty       the node without edges
--     marked         a mark in place of a node;                    depth t     how many edges lie one below another
use Rattle.std.specs.Prelude.{◌≡◌, ℕ, ◌+◌, max, Bool, true, false, ◌&&◌, not, T, List, [], ◌∷◌, refl, Option}
use Rattle.std.proofs.Common.{sym, subst}
use Rattle.std.specs.Ordering.{is_lt, eq_by_cmp}
use Rattle.std.specs.FinMap.{is_sorted, find, put}
use Rattle.std.specs.List.{filter, list_all}
use Rattle.std.specs.Str.{is_utf8}
use denote.Param.Weighed.{most}
use Rattle.hm_tree.specs.Names.{Name, name_cmp}

-- what a node is made of: nothing, a mark, or an edge (its name, its child) beside further edges
pub data Shape : Type 0 where
  bare : Shape
  mark : Shape
  edge : Name → Shape → Shape → Shape

-- whether each further edge has a greater name
abbrev pub above : Name → Shape → Bool
above x bare = true
above x mark = true
above x (edge n c r) = is_lt (name_cmp x n) && above x r

-- a name that is UTF-8, with greater ones behind it
abbrev pub leads : Name → Shape → Bool
leads n r = is_utf8 n && above n r

-- names are UTF-8 and rise. The shape is a whole node, or the rest of the edges of one: a mark stands in place of a whole node
-- alone, and only where m is true
abbrev pub is_node : Bool → Bool → Shape → Bool
is_node m whole bare = true
is_node m whole mark = m && whole
is_node m whole (edge n c r) = leads n r && (is_node m true c && is_node m false r)

pub record Node (m : Bool) : Type 0 where
  pub shape : Shape
  pub sound : T (is_node m true shape)

abbrev pub Tree : Type 0
Tree = Node false

abbrev pub depth_of : Shape → ℕ
depth_of bare = 0
depth_of mark = 0
depth_of (edge n c r) = max (depth_of c + 1) (depth_of r)

abbrev pub is_mark : Shape → Bool
is_mark bare = false
is_mark mark = true
is_mark (edge n c r) = false

-- ---- two tests that hold together, and each of them

pub both : (a b : Bool) → T a → T b → T (a && b)
both true b p q = q
both false b p q = p

pub first : (a b : Bool) → T (a && b) → T a
first true b p = tt
first false b p = p

pub second : (a b : Bool) → T (a && b) → T b
second true b p = p
second false b p = absurd p

-- whether each name in a list is greater
abbrev pub below_all : {X : Type 0} → Name → List (Name × X) → Bool
below_all x [] = true
below_all x (e ∷ es) = is_lt (name_cmp x e.0) && below_all x es

-- whether each name in a list is UTF-8
abbrev pub are_texts : {X : Type 0} → List (Name × X) → Bool
are_texts = list_all (λ e. is_utf8 e.0)

-- whether a list is that of a node's edges: names rise, and each is UTF-8
abbrev pub are_edges : {X : Type 0} → List (Name × X) → Bool
are_edges es = is_sorted name_cmp es && are_texts es

module _ {X : Type 0} where
  pub edges_rise : (es : List (Name × X)) → T (are_edges es) → T (is_sorted name_cmp es)
  edges_rise es h = first _ _ h

  pub edges_texts : (es : List (Name × X)) → T (are_edges es) → T (are_texts es)
  edges_texts es h = second (is_sorted name_cmp es) _ h

  pub edges_from : (es : List (Name × X)) → T (is_sorted name_cmp es) → T (are_texts es) → T (are_edges es)
  edges_from es rise texts = both _ _ rise texts

  -- an edge before others: its name is UTF-8 and less than theirs, and they are edges too
  pub edges_head : (e : Name × X) (es : List (Name × X)) → T (are_edges (e ∷ es)) → T (is_utf8 e.0)
  edges_head e es h = first _ _ (edges_texts (e ∷ es) h)

  pub edges_below : (e : Name × X) (es : List (Name × X)) → T (are_edges (e ∷ es)) → T (below_all e.0 es)
  edges_below e es h = first _ _ (edges_rise (e ∷ es) h)

  pub edges_tail : (e : Name × X) (es : List (Name × X)) → T (are_edges (e ∷ es)) → T (are_edges es)
  edges_tail e es h = edges_from es (second (below_all e.0 es) _ (edges_rise (e ∷ es) h)) (second (is_utf8 e.0) _ (edges_texts (e ∷ es) h))

  pub edges_cons : (e : Name × X) (es : List (Name × X)) → T (is_utf8 e.0) → T (below_all e.0 es) → T (are_edges es) → T (are_edges (e ∷ es))
  edges_cons e es text below h = edges_from (e ∷ es) (both _ _ below (edges_rise es h)) (both _ _ text (edges_texts es h))

module _ {m : Bool} where
  unfoldable pub depth : Node m → ℕ
  depth t = depth_of t.shape

  unfoldable pub is_marked : Node m → Bool
  is_marked t = is_mark t.shape

  unfoldable pub edges_of : (w : Bool) (s : Shape) → T (is_node m w s) → List (Name × Node m)
  edges_of w bare h = []
  edges_of w mark h = []
  edges_of w (edge n c r) h =
      (n, record { shape = c; sound = first _ _ (second (leads n r) _ h) }) ∷ edges_of false r (second (is_node m true c) _ (second (leads n r) _ h))

  unfoldable pub edges : Node m → List (Name × Node m)
  edges t = edges_of true t.shape t.sound

  unfoldable pub joined : List (Name × Node m) → Shape
  joined [] = bare
  joined (e ∷ es) = edge e.0 e.1.shape (joined es)

  above_joined : (x : Name) (es : List (Name × Node m)) → above x (joined es) ≡ below_all x es
  unfolding joined
  above_joined x [] = refl
  above_joined x (e ∷ es) = λ i. is_lt (name_cmp x e.0) && above_joined x es i

  pub joined_sound : (w : Bool) (es : List (Name × Node m)) → T (are_edges es) → T (is_node m w (joined es))
  unfolding joined
  joined_sound w [] h = tt
  joined_sound w (e ∷ es) h =
      let leading = both _ _ (edges_head e es h) (subst T (sym (above_joined e.0 es)) (edges_below e es h)) in
      both _ _ leading (both _ _ e.1.sound (joined_sound false es (edges_tail e es h)))

  unfoldable pub empty : Node m
  empty = record { shape = bare; sound = tt }

  unfoldable pub checked : (es : List (Name × Node m)) (b : Bool) → are_edges es ≡ b → Node m
  checked es true e = record { shape = joined es; sound = joined_sound true es (subst T (sym e) tt) }
  checked es false e = empty

  -- the node with these edges, whose names rise and are UTF-8; the empty node where they don't
  unfoldable pub node : List (Name × Node m) → Node m
  node es = checked es _ refl

  abbrev pub below : Name → Node m → Option (Node m)
  below k t = find name_cmp k (edges t)

  -- with an edge more, and with the edge under a name taken out
  abbrev pub with_edge : Name → Node m → Node m → Node m
  with_edge k c t = node (put name_cmp k c (edges t))

  abbrev pub without_edge : Name → Node m → Node m
  without_edge k t = node (filter (λ e. not (eq_by_cmp name_cmp k e.0)) (edges t))

unfoldable pub marked : Node true
marked = record { shape = mark; sound = tt }

-- the depth that edges make
abbrev pub deepest : {m : Bool} → List (Name × Node m) → ℕ
deepest es = most (λ e. depth e.1 + 1) es
