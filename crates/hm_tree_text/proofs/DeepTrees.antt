-- The text of a tree so deep begins with as many braces that it leaves open.
use Rattle.std.proofs.Common.{◌≡◌, ℕ, zero, suc, ◌+◌, ◌<◌, ◌≤◌, inl, inr, Bool, true, T, List, [], ◌∷◌, ◌++◌, length, refl, sym, ap, subst, ◌∙◌, append_assoc, arith}
use Rattle.std.proofs.lemmas.Bool.{cases_lt}
use Rattle.std.specs.List.{AllByRecursion}
use Rattle.hm_tree.specs.Names.{Name}
use Rattle.hm_tree.specs.Nodes.{bare, Node, are_edges, edges_head, edges_below, edges_tail, edges_cons, edges_rise, below_all, both, first, second, edges, node, depth, deepest}
use Rattle.hm_tree.specs.NodeLaws.{edges_are, edges-node, depth-edges}
use Rattle.hm_tree_spelling.specs.Spelling.{spelled}
use Rattle.hm_tree_text.specs.Text.{whole, below, text, HasAllowedMarks, edge_text, separator, is_more, inside, commas}
use Rattle.hm_tree_text.specs.Opening.{Opens, opens_one, opens_more}
use Rattle.hm_tree_text.specs.Reading.{is_behind, BeginsWith}
use Rattle.hm_tree_text.proofs.Behind.{behind_sorted, text_among}
use Rattle.hm_tree_text.proofs.Listed.{Edges, whole_some, below_full, none_shape, IsAllowedEdge, edges_from_marks, all_among}
use Rattle.hm_tree_text.proofs.Forms.{listed_marks}

-- ---- the first edges of a node

below_first : (x : Name) (es more : Edges) → T (below_all x (es ++ more)) → T (below_all x es)
below_first x [] more h = tt
below_first x (e ∷ es) more h = both _ _ (first _ _ h) (below_first x es more (second _ _ h))

edges_first : (es more : Edges) → T (are_edges (es ++ more)) → T (are_edges es)
edges_first [] more h = tt
edges_first (e ∷ es) more h =
    edges_cons e es (edges_head e (es ++ more) h) (below_first e.0 es more (edges_below e (es ++ more) h)) (edges_first es more (edges_tail e (es ++ more) h))

allowed_first : (m : Bool) (es more : Edges) → AllByRecursion (IsAllowedEdge m) (es ++ more) → AllByRecursion (IsAllowedEdge m) es
allowed_first m [] more h = tt
allowed_first m (e ∷ es) more h = (h.0, allowed_first m es more h.1)

more_behind : (es : Edges) (e : Name × Node true) (more : Edges) → is_more (es ++ e ∷ more) ≡ true
more_behind [] e more = refl
more_behind (f ∷ es) e more = refl

-- an edge stands behind the first ones, each with its comma
inside_parts : (es : Edges) (e : Name × Node true) (more : Edges) (y : List ℕ)
    → inside (es ++ e ∷ more) ++ y ≡ commas es ++ (edge_text e.0 e.1.shape ++ separator (is_more more) ∷ (inside more ++ y))
inside_parts [] e more y = append_assoc (edge_text e.0 e.1.shape) (separator (is_more more) ∷ inside more) y
inside_parts (f ∷ es) e more y =
    append_assoc (edge_text f.0 f.1.shape) (separator (is_more (es ++ e ∷ more)) ∷ inside (es ++ e ∷ more)) y
    ∙ ap (λ b. edge_text f.0 f.1.shape ++ separator b ∷ (inside (es ++ e ∷ more) ++ y)) (more_behind es e more)
    ∙ ap (λ l. edge_text f.0 f.1.shape ++ 44 ∷ l) (inside_parts es e more y)
    ∙ sym (append_assoc (edge_text f.0 f.1.shape) (44 ∷ commas es) (edge_text e.0 e.1.shape ++ separator (is_more more) ∷ (inside more ++ y)))

-- an edge below which edges are so deep
record IsDeepEdge (es : Edges) (n : ℕ) : Type 0 where
  before : Edges
  edge : Name × Node true
  more : Edges
  among : es ≡ before ++ edge ∷ more
  deep : n ≤ depth edge.1 + 1

deep_edge : (es : Edges) (n : ℕ) → 0 < n → n ≤ deepest es → IsDeepEdge es n
deep_edge [] n some deep = absurd (omega arith)
deep_edge (e ∷ es) n some deep = elim (cases_lt (depth e.1 + 1) n) [
  | inl less ↦
      let rest = deep_edge es n some (omega arith) in
      record { before = e ∷ rest.before; edge = rest.edge; more = rest.more; among = ap (λ l. e ∷ l) rest.among; deep = rest.deep }
  | inr at ↦ record { before = []; edge = e; more = es; among = refl; deep = at }
]

some_edges : (t : Node true) → 1 ≤ depth t → length (edges t) ≡ 0 → ⊥
some_edges t deep none = by (edges t) none (let d = depth-edges t in omega arith)
  where
    by : (es : Edges) → length es ≡ 0 → 1 ≤ deepest es → ⊥
    by [] e d = omega arith
    by (e ∷ es) none d = omega arith

not_bare : (t : Node true) → 1 ≤ depth t → t.shape ≡ bare → ⊥
not_bare t deep is = some_edges t deep (none_shape t is)

-- ---- a node so deep

module _ (m : Bool) where
  opens_inner : (k j : ℕ) (t : Node true) → HasAllowedMarks m t.shape → k ≡ j + 1 → 1 ≤ j → 1 ≤ depth t → (d : IsDeepEdge (edges t) k) → (y : List ℕ)
      → ((z : List ℕ) → BeginsWith (Opens m j) (text whole d.edge.1.shape ++ z)) → BeginsWith (Opens m k) (text whole t.shape ++ y)
  opens_inner k j t marks kj some deep d y inner =
      let es = d.before in
      let e = d.edge in
      let are : T (are_edges (es ++ e ∷ d.more)) = subst (λ (l : Edges). T (are_edges l)) d.among (edges_are t) in
      let allowed : AllByRecursion (IsAllowedEdge m) (es ++ e ∷ d.more) = subst (AllByRecursion (IsAllowedEdge m)) d.among (edges_from_marks m t marks) in
      let firsts : T (are_edges es) = edges_first es (e ∷ d.more) are in
      let of_node : edges (node es) ≡ es = edges-node es firsts in
      let z = separator (is_more d.more) ∷ (inside d.more ++ y) in
      let h = inner z in
      let low = d.deep in
      let full = below_full e.1.shape (not_bare e.1 (omega arith)) in
      record {
        part = 123 ∷ (commas es ++ (spelled e.0 ++ 58 ∷ h.part));
        rest = h.rest;
        is_form = opens_more k j _ h.part (node es) e.0 (listed_marks m es firsts (allowed_first m es (e ∷ d.more) allowed))
            (text_among e es d.more are)
            (subst (λ (l : Edges). T (is_behind e.0 l)) (sym of_node) (behind_sorted e.0 e.1 es d.more (edges_rise _ are)))
            h.is_form kj (ap (λ (l : Edges). 123 ∷ (commas l ++ (spelled e.0 ++ 58 ∷ h.part))) (sym of_node));
        is = ap (λ l. l ++ y) (whole_some t (some_edges t deep))
            ∙ ap (λ (l : Edges). 123 ∷ (inside l ++ y)) d.among
            ∙ ap (λ l. 123 ∷ l) (inside_parts es e d.more y)
            ∙ ap (λ l. 123 ∷ (commas es ++ l)) (append_assoc (spelled e.0) (text below e.1.shape) z
            ∙ ap (λ l. spelled e.0 ++ (l ++ z)) full ∙ ap (λ l. spelled e.0 ++ 58 ∷ l) h.is)
            ∙ ap (λ l. 123 ∷ l) (ap (λ l. commas es ++ l) (sym (append_assoc (spelled e.0) (58 ∷ h.part) h.rest))
            ∙ sym (append_assoc (commas es) (spelled e.0 ++ 58 ∷ h.part) h.rest));
      }

  pub opens_deep : (k : ℕ) (t : Node true) → HasAllowedMarks m t.shape → 1 ≤ k → k ≤ depth t → (y : List ℕ) → BeginsWith (Opens m k) (text whole t.shape ++ y)
  opens_deep zero t marks some deep y = absurd (omega arith)
  opens_deep (suc zero) t marks some deep y = record {
    part = 123 ∷ [];
    rest = inside (edges t) ++ y;
    is_form = opens_one 1 (123 ∷ []) refl refl;
    is = ap (λ l. l ++ y) (whole_some t (some_edges t deep));
  }
  opens_deep (suc (suc r)) t marks some deep y =
      let d = deep_edge (edges t) (suc (suc r)) (omega arith) (let e = depth-edges t in omega arith) in
      let low = d.deep in
      let allowed = all_among m d.before d.edge d.more (subst (AllByRecursion (IsAllowedEdge m)) d.among (edges_from_marks m t marks)) in
      opens_inner (suc (suc r)) (suc r) t marks (omega arith) (omega arith) (omega arith) d y
      (opens_deep (suc r) d.edge.1 allowed (omega arith) (omega arith))
