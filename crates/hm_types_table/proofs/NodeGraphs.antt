-- The graph of nodes, and what is kept beside them from the start.
use Rattle.std.proofs.Common.{◌≡◌, ℕ, ◌<◌, inl, inr, List, [], ◌∷◌, ◌++◌, map, length, get_or, slice_get, Some, All, sym, ap, subst, ◌∙◌, arith, length-append}
use Rattle.std.proofs.lemmas.Bool.{cases_lt}
use Rattle.std.proofs.lemmas.List.Elements.{All-map}
use Rattle.std.proofs.lemmas.Option.{same_Some, slice_get_within, slice_get-get_or}
use Rattle.hm_graph.specs.declared.sameness.Vertex.{Vertex}
use Rattle.hm_graph.specs.Same.{Graph, IsClosed}
use Rattle.hm_graph_classes.specs.Reduced.{IsReduced, HasVertex, AreClasses, class_at}
use Rattle.hm_schema.specs.declared.node.NodeId.{NodeId}
use Rattle.hm_schema.specs.Values.{NodeValue}
use Rattle.hm_schema.specs.Tidied.{tidied}
use Rattle.hm_schema.specs.Labels.{Numbers, label_cmp}
use Rattle.hm_schema.specs.Numbering.{IsNumbering, KeepsNumbers}
use Rattle.hm_types_forms.specs.Forms.{label_of}
use Rattle.hm_types_table.specs.declared.outline.Outline.{Outline}
use Rattle.hm_types_table.specs.declared.annotations.Annotations.{Annotations}
use Rattle.hm_types_table.specs.Tables.{Nodes, AreFormed}
use Rattle.hm_types_table.specs.Classes.{EachAt, AreOutlines, HaveSizes, IsOutline, IsVertexOf, AreVertices, ends, classes_of, IsClassed, AreClassed}
use Rattle.hm_types_table.proofs.Places.{at_front, at_last, there}
use Rattle.hm_types_table.proofs.Grown.{formed_at}
use Rattle.hm_types_table.proofs.Classed.{outline_stays, standing_size, ends_are, ends_inside}
use Rattle.hm_types_table.proofs.ClassEdges.{classes_places}

-- ---- items with their places

module _ {X : Type 0} (P : ℕ → X → Type 0) where
  pub each_pushed : (xs : List X) (x : X) → EachAt P xs → P (length xs) x → EachAt P (xs ++ x ∷ [])
  each_pushed xs x h p i y at = elim (cases_lt i (length xs)) [
    | inl lt ↦ h i y (sym (at_front xs (x ∷ []) i lt) ∙ at)
    | inr le ↦
        let within = slice_get_within (xs ++ x ∷ []) i y at in
        let e : i ≡ length xs = omega (arith, le, within, length-append xs (x ∷ [])) in
        let is : x ≡ y = same_Some x y (sym (at_last xs x) ∙ ap (slice_get (xs ++ x ∷ [])) (sym e) ∙ at) in
        subst (P i) is (subst (λ i. P i x) (sym e) p)
  ]

-- ---- outlines

pub outlines_more : (old new : Numbers) (nodes : Nodes) (outlines : List Outline) (o : Outline) (n : NodeValue) → AreOutlines old nodes outlines
    → KeepsNumbers label_cmp old new → slice_get nodes (length outlines) ≡ Some n → IsOutline new (label_of n) o
    → AreOutlines new nodes (outlines ++ o ∷ [])
outlines_more old new nodes outlines o n h stays at is =
    each_pushed (λ i o. (n : NodeValue) → slice_get nodes i ≡ Some n → IsOutline new (label_of n) o) outlines o
    (λ i x e m f. outline_stays old new (label_of m) x stays (h i x e m f))
    (λ m e. subst (λ m. IsOutline new (label_of m) o) (same_Some n m (sym at ∙ e)) is)

pub have_sizes : (known : Numbers) (nodes : Nodes) (outlines : List Outline) → AreOutlines known nodes outlines → HaveSizes nodes outlines
have_sizes known nodes outlines h i o e n at = standing_size known n o (h i o e n at)

-- ---- vertices

pub vertices_more : (nodes : Nodes) (outlines : List Outline) (graph : List Vertex) (n : NodeValue) (o : Outline) (v : Vertex)
    → AreVertices nodes outlines graph → slice_get nodes (length graph) ≡ Some n → slice_get outlines (length graph) ≡ Some o → IsVertexOf n o v
    → AreVertices nodes outlines (graph ++ v ∷ [])
vertices_more nodes outlines graph n o v h at to is =
    each_pushed (λ i v. (n : NodeValue) (o : Outline) → slice_get nodes i ≡ Some n → slice_get outlines i ≡ Some o → IsVertexOf n o v) graph v h
    (λ m p e f. subst (λ m. IsVertexOf m p v) (same_Some n m (sym at ∙ e)) (subst (λ p. IsVertexOf n p v) (same_Some o p (sym to ∙ f)) is))

module _ (known : Numbers) (nodes : Nodes) (outlines : List Outline) (graph : Graph) (formed : AreFormed nodes) (outlined : AreOutlines known nodes outlines)
    (vertices : AreVertices nodes outlines graph) (long : length outlines ≡ length nodes) (size : length graph ≡ length nodes) where
  -- the edges of a vertex are those of its node, tidied
  pub vertex_edges : (i : ℕ) (n : NodeValue) (o : Outline) (v : Vertex) → slice_get nodes i ≡ Some n → slice_get outlines i ≡ Some o
      → slice_get graph i ≡ Some v → v.next.items ≡ map (λ j. j.place) (ends (tidied n))
  vertex_edges i n o v at to on = (vertices i v on n o at to).next ∙ ap (map (λ j. j.place)) (ends_are known n o (outlined i o to n at))

  pub graph_closed : IsClosed graph
  graph_closed i d lt =
      let v = get_or graph i d in
      let on = slice_get-get_or graph i d lt in
      let n = there nodes i (omega (arith, lt, size)) in
      let o = there outlines i (omega (arith, lt, size, long)) in
      let inside = ends_inside (length nodes) n.0 (formed_at nodes (record { place = i }) n.0 formed n.1) in
      subst (All (λ k. k < length graph)) (sym (vertex_edges i n.0 o.0 v n.1 o.1 on))
      (subst (λ count. All (λ (k : ℕ). k < count) (map (λ j. j.place) (ends (tidied n.0)))) (sym size)
      (All-map (λ (k : ℕ). k < length nodes) (λ (j : NodeId). j.place) (ends (tidied n.0)) inside))

-- ---- what is kept beside nodes

module _ (nodes : Nodes) (s : Annotations) (graph : Graph) (formed : AreFormed nodes) (numbering : IsNumbering label_cmp s.numbers)
    (outlined : AreOutlines s.numbers nodes s.outlines.items) (vertices : AreVertices nodes s.outlines.items graph)
    (long : length s.outlines.items ≡ length nodes) (size : length graph ≡ length nodes)
    (reduced : IsReduced s.reduced) (classes : AreClasses graph s.reduced s.classes.items)
    (seen_size : length s.seen.items ≡ length s.outlines.items)
    (seen : (i : ℕ) → i < length s.outlines.items → slice_get s.seen.items i ≡ Some i) where
  one_classed : (i : ℕ) (n : NodeValue) → slice_get nodes i ≡ Some n → IsClassed s i n
  one_classed i n at =
      let lt = slice_get_within nodes i n at in
      let o = there s.outlines.items i (omega (arith, lt, long)) in
      let v = there graph i (omega (arith, lt, size)) in
      let label : v.0.label ≡ o.0.label = (vertices i v.0 v.1 n o.0 at o.1).label in
      let edges : map (class_at s.classes.items) v.0.next.items ≡ classes_of s.classes.items (ends (tidied n)) =
      ap (map (class_at s.classes.items)) (vertex_edges s.numbers nodes s.outlines.items graph formed outlined vertices long size i n o.0 v.0 at o.1 v.1)
      ∙ classes_places s.classes.items (ends (tidied n)) in
      let its = classes.each i (class_at s.classes.items i) v.0 v.1 (slice_get-get_or s.classes.items i 0 (omega (arith, lt, size, classes.size))) in
      record {
        seen = i;
        is_seen = seen i (omega (arith, lt, long));
        outline = o.0;
        is_outline = o.1;
        outlined = outlined i o.0 o.1 n at;
        vertex = subst (λ l. HasVertex s.reduced (class_at s.classes.items i) l (classes_of s.classes.items (ends (tidied n)))) label
            (subst (HasVertex s.reduced (class_at s.classes.items i) v.0.label) edges its);
      }

  pub classed_new : AreClassed nodes s
  classed_new = record {
    formed = formed;
    numbering = numbering;
    reduced = reduced;
    seen_size = seen_size ∙ long;
    classes_size = classes.size ∙ size;
    each = one_classed;
  }
