-- The text of a node by the list of its edges.
use Rattle.std.proofs.Common.{◌≡◌, ℕ, Bool, true, false, List, [], ◌∷◌, ◌++◌, length, refl, sym, ap, subst, ◌∙◌, append_assoc, arith}
use Rattle.std.specs.List.{AllByRecursion}
use mathlib.Core.Bool.{true≢false}
use Rattle.hm_tree.specs.Names.{Name}
use Rattle.hm_tree.specs.Nodes.{Shape, bare, mark, edge, Node, edges, node, empty, joined, is_mark, is_marked}
use Rattle.hm_tree.specs.NodeLaws.{same_node, node-edges, edges_empty, edges_are, edges-marked, shape_checked}
use Rattle.hm_tree_spelling.specs.Spelling.{spelled}
use Rattle.hm_tree_text.specs.Text.{whole, below, further, text, HasAllowedMarks, edge_text, separator, is_more, inside, commas}
use Rattle.hm_tree_text.proofs.Spelling.{edge_apart}

abbrev pub Edges : Type 0
Edges = List (Name × Node true)

further_joined : (es : Edges) → text further (joined es) ≡ separator (is_more es) ∷ inside es
unfolding joined
further_joined [] = refl
further_joined (e ∷ es) = ap (λ l. 44 ∷ l) (ap (λ l. spelled e.0 ++ (text below e.1.shape ++ l)) (further_joined es)
    ∙ sym (append_assoc (spelled e.0) (text below e.1.shape) (separator (is_more es) ∷ inside es)))

whole_joined : (e : Name × Node true) (es : Edges) → text whole (joined (e ∷ es)) ≡ 123 ∷ inside (e ∷ es)
unfolding joined
whole_joined e es = ap (λ l. 123 ∷ l) (ap (λ l. spelled e.0 ++ (text below e.1.shape ++ l)) (further_joined es)
    ∙ sym (append_assoc (spelled e.0) (text below e.1.shape) (separator (is_more es) ∷ inside es)))

pub shape_joined : (t : Node true) → is_marked t ≡ false → t.shape ≡ joined (edges t)
unfolding node
shape_joined t u = sym (ap (λ (n : Node true). n.shape) (node-edges t u)) ∙ shape_checked (edges t) _ refl (edges_are t)

-- ---- the node without edges

pub shape_empty : (empty {m = true}).shape ≡ bare
unfolding empty
shape_empty = refl

pub empty_unmarked : is_marked (empty {m = true}) ≡ false
unfolding empty is_marked
empty_unmarked = refl

nothing : {X : Type 0} (xs : List X) → length xs ≡ 0 → xs ≡ []
nothing [] e = refl
nothing (x ∷ xs) e = absurd (omega arith)

joined_nothing : (es : Edges) → es ≡ [] → joined es ≡ bare
unfolding joined
joined_nothing es e = ap joined e

module _ (t : Node true) where
  -- a mark has no edges
  pub unmarked : (length (edges t) ≡ 0 → ⊥) → is_marked t ≡ false
  unmarked some = by (is_marked t) refl
    where
      by : (b : Bool) → is_marked t ≡ b → is_marked t ≡ false
      by false e = e
      by true e = absurd (some (ap length (edges-marked t e)))

  pub shape_none : is_marked t ≡ false → length (edges t) ≡ 0 → t.shape ≡ bare
  shape_none u e = shape_joined t u ∙ joined_nothing (edges t) (nothing (edges t) e)

  pub none_shape : t.shape ≡ bare → length (edges t) ≡ 0
  none_shape e = ap (λ (u : Node true). length (edges u)) (same_node t empty (e ∙ sym shape_empty)) ∙ ap length edges_empty

  pub shape_mark : is_marked t ≡ true → t.shape ≡ mark
  unfolding is_marked
  shape_mark e = by t.shape e
    where
      by : (s : Shape) → is_mark s ≡ true → s ≡ mark
      by bare e = absurd (true≢false (sym e))
      by mark e = refl
      by (edge n c r) e = absurd (true≢false (sym e))

  pub whole_none : is_marked t ≡ false → length (edges t) ≡ 0 → text whole t.shape ≡ 123 ∷ 125 ∷ []
  whole_none m e = ap (text whole) (shape_none m e)

  pub whole_mark : is_marked t ≡ true → text whole t.shape ≡ 33 ∷ []
  whole_mark m = ap (text whole) (shape_mark m)

  pub whole_some : (length (edges t) ≡ 0 → ⊥) → text whole t.shape ≡ 123 ∷ inside (edges t)
  whole_some some = ap (text whole) (shape_joined t (unmarked some)) ∙ by (edges t) some
    where
      by : (es : Edges) → (length es ≡ 0 → ⊥) → text whole (joined es) ≡ 123 ∷ inside es
      by [] h = absurd (h refl)
      by (e ∷ es) h = whole_joined e es

-- behind a name a node that isn't bare stands behind a colon
pub below_full : (s : Shape) → (s ≡ bare → ⊥) → text below s ≡ 58 ∷ text whole s
below_full bare some = absurd (some refl)
below_full mark some = refl
below_full (edge n c r) some = refl

-- what isn't bare and opens with a brace has edges
pub has_edges : (t : Node true) (x y : List ℕ) → (t.shape ≡ bare → ⊥) → text whole t.shape ++ y ≡ 123 ∷ x → length (edges t) ≡ 0 → ⊥
has_edges t x y some e none = by (is_marked t) refl
  where
    by : (b : Bool) → is_marked t ≡ b → ⊥
    by false m = some (shape_none t m none)
    by true m =
        let is : ◌≡◌ {A = List ℕ} (33 ∷ y) (123 ∷ x) = ap (λ l. l ++ y) (sym (whole_mark t m)) ∙ e in
        let no : ◌≡◌ {A = ℕ} 33 123 = cc in
        omega arith

-- ---- edges one behind the other

commas_more : (es : Edges) (e : Name × Node true) (x : List ℕ) → commas (es ++ e ∷ []) ++ x ≡ commas es ++ ((edge_text e.0 e.1.shape ++ 44 ∷ []) ++ x)
commas_more [] e x = refl
commas_more (f ∷ es) e x =
    append_assoc (edge_text f.0 f.1.shape) (44 ∷ commas (es ++ e ∷ [])) x
    ∙ ap (λ l. edge_text f.0 f.1.shape ++ 44 ∷ l) (commas_more es e x)
    ∙ sym (append_assoc (edge_text f.0 f.1.shape) (44 ∷ commas es) _)

is_more_append : (es : Edges) (e : Name × Node true) → is_more (es ++ e ∷ []) ≡ true
is_more_append [] e = refl
is_more_append (f ∷ es) e = refl

-- with its last edge a node is whole
closing : (es : Edges) (e : Name × Node true) (x : List ℕ) → commas es ++ ((edge_text e.0 e.1.shape ++ 125 ∷ []) ++ x) ≡ inside (es ++ e ∷ []) ++ x
closing [] e x = refl
closing (f ∷ es) e x =
    append_assoc (edge_text f.0 f.1.shape) (44 ∷ commas es) _
    ∙ ap (λ l. edge_text f.0 f.1.shape ++ 44 ∷ l) (closing es e x)
    ∙ ap (λ b. edge_text f.0 f.1.shape ++ separator b ∷ (inside (es ++ e ∷ []) ++ x)) (sym (is_more_append es e))
    ∙ sym (append_assoc (edge_text f.0 f.1.shape) (separator (is_more (es ++ e ∷ [])) ∷ inside (es ++ e ∷ [])) x)

pub commas_last : (es : Edges) (e : Name × Node true) (x : List ℕ)
    → commas (es ++ e ∷ []) ++ x ≡ commas es ++ ((edge_text e.0 e.1.shape ++ 44 ∷ []) ++ x)
commas_last es e x = commas_more es e x

pub inside_last : (es : Edges) (e : Name × Node true) (x : List ℕ)
    → commas es ++ ((edge_text e.0 e.1.shape ++ 125 ∷ []) ++ x) ≡ inside (es ++ e ∷ []) ++ x
inside_last es e x = closing es e x

-- behind the first edges of a node another one comes
pub record NextEdge (es fs : Edges) (bytes rest : List ℕ) : Type 0 where
  pub next : Name × Node true
  pub more : Edges
  pub among : fs ≡ es ++ next ∷ more
  pub spelled : bytes ≡ edge_text next.0 next.1.shape ++ separator (is_more more) ∷ (inside more ++ rest)

module _ (x rest : List ℕ) where
  pub remaining : (es : Edges) (f : Name × Node true) (fs : Edges) → commas es ++ x ≡ inside (f ∷ fs) ++ rest → NextEdge es (f ∷ fs) x rest
  remaining [] f fs e = record {
    next = f;
    more = fs;
    among = refl;
    spelled = e
        ∙ append_assoc (edge_text f.0 f.1.shape) (separator (is_more fs) ∷ inside fs) rest;
  }
  remaining (d ∷ es) f fs e = by (λ k ks es_is. remaining es k ks es_is) fs e
    where
      first : (fs : Edges) → commas (d ∷ es) ++ x ≡ inside (f ∷ fs) ++ rest
          → (d.0 ≡ f.0) × (d.1 ≡ f.1) × (true ≡ is_more fs) × (commas es ++ x ≡ inside fs ++ rest)
      first fs e = edge_apart d.0 f.0 d.1 f.1 true (is_more fs) _ _ (sym (append_assoc (edge_text d.0 d.1.shape) (44 ∷ commas es) x) ∙ e
          ∙ append_assoc (edge_text f.0 f.1.shape) (separator (is_more fs) ∷ inside fs) rest)

      by : ((k : Name × Node true) (ks : Edges) → commas es ++ x ≡ inside (k ∷ ks) ++ rest → NextEdge es (k ∷ ks) x rest) → (fs : Edges)
          → commas (d ∷ es) ++ x ≡ inside (f ∷ fs) ++ rest → NextEdge (d ∷ es) (f ∷ fs) x rest
      by again [] e = let one = first [] e in let no : ⊥ = cc (one.2) in absurd no
      by again (k ∷ fs) e =
          let one = first (k ∷ fs) e in
          let then = again k fs one.3 in
          record { next = then.next; more = then.more; among = λ i. (sym one.0 i, sym one.1 i) ∷ then.among i; spelled = then.spelled }

-- ---- marks

-- an edge behind which marks stand only where m allows them
abbrev pub IsAllowedEdge : Bool → Name × Node true → Type 0
IsAllowedEdge m e = HasAllowedMarks m e.1.shape

module _ (m : Bool) where
  marks_joined : (es : Edges) → AllByRecursion (IsAllowedEdge m) es → HasAllowedMarks m (joined es)
  unfolding joined
  marks_joined [] h = tt
  marks_joined (e ∷ es) h = (h.0, marks_joined es h.1)

  joined_marks : (es : Edges) → HasAllowedMarks m (joined es) → AllByRecursion (IsAllowedEdge m) es
  unfolding joined
  joined_marks [] h = tt
  joined_marks (e ∷ es) h = (h.0, joined_marks es h.1)

  pub marks_from_edges : (t : Node true) → is_marked t ≡ false → AllByRecursion (IsAllowedEdge m) (edges t) → HasAllowedMarks m t.shape
  marks_from_edges t u h = subst (HasAllowedMarks m) (sym (shape_joined t u)) (marks_joined (edges t) h)

  pub edges_from_marks : (t : Node true) → HasAllowedMarks m t.shape → AllByRecursion (IsAllowedEdge m) (edges t)
  edges_from_marks t h = by (is_marked t) refl
    where
      by : (b : Bool) → is_marked t ≡ b → AllByRecursion (IsAllowedEdge m) (edges t)
      by false u = joined_marks (edges t) (subst (HasAllowedMarks m) (shape_joined t u) h)
      by true u = subst (AllByRecursion (IsAllowedEdge m)) (sym (edges-marked t u)) tt

  pub all_last : (es : Edges) (e : Name × Node true) → AllByRecursion (IsAllowedEdge m) es → IsAllowedEdge m e
      → AllByRecursion (IsAllowedEdge m) (es ++ e ∷ [])
  all_last [] e h here = (here, tt)
  all_last (f ∷ es) e h here = (h.0, all_last es e h.1 here)

  pub all_among : (es : Edges) (e : Name × Node true) (more : Edges) → AllByRecursion (IsAllowedEdge m) (es ++ e ∷ more) → IsAllowedEdge m e
  all_among [] e more h = h.0
  all_among (f ∷ es) e more h = all_among es e more h.1

pub bare_unmarked : (t : Node true) → t.shape ≡ bare → is_marked t ≡ true → ⊥
bare_unmarked t none m = let no : bare ≡ mark = sym none ∙ shape_mark t m in cc
