-- Two schemas are the same exactly where their roots are, in the graph of their nodes.
use Rattle.std.proofs.Common.{◌≡◌, ◌↔◌, ℕ, zero, suc, ◌+◌, ◌-◌, ◌<◌, Bool, ◌&&◌, IsTrue, ltb, List, [], ◌∷◌, ◌++◌, length, get_or, slice_get, All, Some, refl, sym, ap, subst, ◌∙◌, arith, zero-add, length-append}
use Rattle.std.proofs.lemmas.List.{get_or_default}
use Rattle.std.specs.List.{AllZip}
use Rattle.std.proofs.lemmas.Bool.{and_parts, and_from, ltb-true, lt-ltb}
use Rattle.std.proofs.lemmas.Option.{same_Some, slice_get_within, slice_get_read}
use Rattle.hm_graph.specs.Same.{Graph, IsClosed, label_at, next_at, edges_of, Match, AreBisimilar}
use Rattle.hm_schema.specs.declared.node.NodeId.{NodeId}
use Rattle.hm_schema.specs.Values.{NodeValue, SchemaValue, node_at}
use Rattle.hm_schema.specs.Tidied.{tidied}
use Rattle.hm_schema.specs.WellFormed.{IsWellFormed}
use Rattle.hm_schema.specs.Sameness.{AreSame, MatchAt}
use Rattle.hm_schema.specs.Labels.{HaveOneLabel, AreLabels}
use Rattle.hm_schema_same.specs.JointGraphs.{IsVertexOf, begins, edges_from}
use Rattle.hm_schema.proofs.References.{well_formed_at}
use Rattle.hm_schema_same.proofs.JointGraphs.{slice_get_front, slice_get_behind}
use Rattle.hm_schema_same.proofs.JointEdges.{tidied_below, edges_below, begins_first, begins_second, lead_below, paired_children, paired_others, paired_edges, same_names, same_class}

-- an item within a list
item_at : {X : Type 0} (xs : List X) (i : ℕ) → i < length xs → (x : X) × (slice_get xs i ≡ Some x)
item_at [] i lt = absurd (omega arith)
item_at (x ∷ xs) zero lt = (x, refl)
item_at (x ∷ xs) (suc i) lt = item_at xs i (omega arith)

-- the graph of the nodes of two schemas
pub record IsJointGraph (one two : SchemaValue) (labels : List ℕ) (g : Graph) : Type 0 where
  pub first_formed : IsWellFormed one
  pub second_formed : IsWellFormed two
  pub labels_are : AreLabels (one.nodes ++ two.nodes) labels
  pub size : length g ≡ length (one.nodes ++ two.nodes)
  pub each : (i : ℕ) (n : NodeValue) → slice_get (one.nodes ++ two.nodes) i ≡ Some n → IsVertexOf g labels (length one.nodes) i n

module _ (one two : SchemaValue) (labels : List ℕ) (g : Graph) (h : IsJointGraph one two labels g) where
  long : length g ≡ length one.nodes + length two.nodes
  long = h.size ∙ length-append one.nodes two.nodes

  pub joint_closed : IsClosed g
  joint_closed i d lt =
      let n = item_at (one.nodes ++ two.nodes) i (omega (arith, lt, h.size)) in
      let v = h.each i n.0 n.1 in
      let below = lead_below one two h.first_formed h.second_formed (length g) (omega (arith, long)) i n.0 n.1 in
      let is : next_at g i ≡ (get_or g i d).next.items =
      ap edges_of (slice_get_read g _ i (get_or g i d) refl lt (get_or_default g i d (get_or g i d) lt)) in
      subst (λ l. All (λ k. k < length g) l) (sym v.next ∙ is)
      (edges_below (length g) (begins (length one.nodes) i) (tidied n.0) below)

  -- ---- the vertices of the nodes of the one and of the other

  in_front : (i : NodeId) (n : NodeValue) → node_at one i ≡ Some n → slice_get (one.nodes ++ two.nodes) i.place ≡ Some n
  in_front i n at = slice_get_front one.nodes two.nodes i.place (slice_get_within one.nodes i.place n at) ∙ at

  behind : (j : NodeId) (m : NodeValue) → node_at two j ≡ Some m → slice_get (one.nodes ++ two.nodes) (length one.nodes + j.place) ≡ Some m
  behind j m at = slice_get_behind one.nodes two.nodes j.place ∙ at

  first_next : (i : NodeId) (n : NodeValue) → node_at one i ≡ Some n → next_at g i.place ≡ edges_from 0 (tidied n)
  first_next i n at =
      (h.each i.place n (in_front i n at)).next
      ∙ ap (λ first. edges_from first (tidied n)) (begins_first one two i.place (slice_get_within one.nodes i.place n at))

  second_next : (j : NodeId) (m : NodeValue) → node_at two j ≡ Some m → next_at g (length one.nodes + j.place) ≡ edges_from (length one.nodes) (tidied m)
  second_next j m at =
      (h.each (length one.nodes + j.place) m (behind j m at)).next
      ∙ ap (λ first. edges_from first (tidied m)) (begins_second one two j.place)

  one_label : (i j : NodeId) (n m : NodeValue) → node_at one i ≡ Some n → node_at two j ≡ Some m
      → (label_at g i.place ≡ label_at g (length one.nodes + j.place)) ↔ HaveOneLabel (tidied n) (tidied m)
  one_label i j n m at_i at_j =
      let first = in_front i n at_i in
      let second = behind j m at_j in
      let a = item_at labels i.place (omega (arith, h.labels_are.size, slice_get_within _ i.place n first)) in
      let b = item_at labels (length one.nodes + j.place) (omega (arith, h.labels_are.size, slice_get_within _ (length one.nodes + j.place) m second)) in
      let equal = h.labels_are.equal i.place (length one.nodes + j.place) n m a.0 b.0 first second a.1 b.1 in
      let left : label_at g i.place ≡ Some a.0 = (h.each i.place n first).label ∙ a.1 in
      let right : label_at g (length one.nodes + j.place) ≡ Some b.0 = (h.each (length one.nodes + j.place) m second).label ∙ b.1 in (
        λ e. equal.0 (same_Some a.0 b.0 (sym left ∙ e ∙ right)),
        λ e. left ∙ ap Some (equal.1 e) ∙ sym right,
      )

  -- ---- from a pairing of vertices

  module _ (s : AreBisimilar g one.root.place (length one.nodes + two.root.place)) where
    abbrev paired_nodes : NodeId → NodeId → Bool
    paired_nodes i j = ltb i.place (length one.nodes) && s.paired i.place (length one.nodes + j.place)

    abbrev Vertices : ℕ → ℕ → Type 0
    Vertices a b = IsTrue (s.paired a b)

    paired_here : (i j : NodeId) → i.place < length one.nodes → Vertices (0 + i.place) (length one.nodes + j.place) → IsTrue (paired_nodes i j)
    paired_here i j lt t =
        and_from _ _ (lt-ltb i.place (length one.nodes) lt) (subst (λ a. Vertices a (length one.nodes + j.place)) (zero-add i.place) t)

    match_at : (i j : NodeId) → IsTrue (paired_nodes i j) → MatchAt one two (λ a b. IsTrue (paired_nodes a b)) i j
    match_at i j t =
        let parts = and_parts (ltb i.place (length one.nodes)) _ t in
        let m = s.closed i.place (length one.nodes + j.place) parts.1 in
        let n = item_at one.nodes i.place (ltb-true i.place (length one.nodes) parts.0) in
        let k = item_at two.nodes j.place (omega (arith, m.two, long)) in
        let label = (one_label i j n.0 k.0 n.1 k.1).0 m.label in
        let below = tidied_below (length one.nodes) 0 (length one.nodes) n.0 (well_formed_at one i n.0 h.first_formed n.1) (omega arith) in
        let next : AllZip Vertices (edges_from 0 (tidied n.0)) (edges_from (length one.nodes) (tidied k.0)) =
        subst (λ l. AllZip Vertices l (edges_from (length one.nodes) (tidied k.0))) (first_next i n.0 n.1)
        (subst (AllZip Vertices (next_at g i.place)) (second_next j k.0 k.1) m.next) in
        let In : NodeId → Type 0 = λ a. 0 + a.place < length one.nodes in
        let Paired : NodeId → NodeId → Type 0 = λ a b. IsTrue (paired_nodes a b) in
        let into : (a b : NodeId) → In a → Vertices (0 + a.place) (length one.nodes + b.place) → Paired a b =
        λ a b lt t. paired_here a b (subst (λ k. k < length one.nodes) (zero-add a.place) lt) t in
        let children = paired_children Vertices Paired 0 (length one.nodes) {P = In} into (tidied n.0).children (tidied k.0).children _ _ label.names
        below.children next in
        record {
          first = n.0;
          second = k.0;
          is_first = n.1;
          is_second = k.1;
          match = record {
            shapes = label.shapes;
            children = children.0;
            other = paired_others Vertices Paired 0 (length one.nodes) {P = In} into (tidied n.0).other (tidied k.0).other label.class below.other children.1;
            twins = label.twins;
          };
        }

    pub same_from_graph : AreSame one two
    same_from_graph = record {
      paired = paired_nodes;
      pairing = record { matches = match_at };
      roots = and_from _ _ (lt-ltb one.root.place (length one.nodes) h.first_formed.root) s.here;
    }

  -- ---- from a pairing of nodes

  module _ (s : AreSame one two) where
    abbrev node_of_vertex : ℕ → NodeId
    node_of_vertex a = record { place = a }

    abbrev paired_vertices : ℕ → ℕ → Bool
    paired_vertices a b =
        ltb a (length one.nodes) && (ltb (length one.nodes) (suc b) && s.paired (node_of_vertex a) (node_of_vertex (b - length one.nodes)))

    abbrev Nodes : NodeId → NodeId → Type 0
    Nodes i j = IsTrue (s.paired i j)

    vertices_here : (i j : NodeId) → Nodes i j → IsTrue (paired_vertices (0 + i.place) (length one.nodes + j.place))
    vertices_here i j t =
        let m = s.pairing.matches i j t in
        let lt : i.place < length one.nodes = slice_get_within one.nodes i.place m.first m.is_first in
        let back : j.place ≡ (length one.nodes + j.place) - length one.nodes = omega arith in
        let same : node_of_vertex i.place ≡ node_of_vertex (0 + i.place) = ap node_of_vertex (sym (zero-add i.place)) in
        and_from _ _ (lt-ltb (0 + i.place) (length one.nodes) (omega arith))
        (and_from _ _ (lt-ltb (length one.nodes) (suc (length one.nodes + j.place)) (omega arith))
        (subst (λ a. IsTrue (s.paired a (node_of_vertex ((length one.nodes + j.place) - length one.nodes)))) same
        (subst (λ b. IsTrue (s.paired i (node_of_vertex b))) back t)))

    match_vertices : (a b : ℕ) → IsTrue (paired_vertices a b) → Match g (λ c d. IsTrue (paired_vertices c d)) a b
    match_vertices a b t =
        let S : ℕ → ℕ → Type 0 = λ c d. IsTrue (paired_vertices c d) in
        let parts = and_parts (ltb a (length one.nodes)) _ t in
        let more = and_parts (ltb (length one.nodes) (suc b)) _ parts.1 in
        let low = ltb-true a (length one.nodes) parts.0 in
        let high = ltb-true (length one.nodes) (suc b) more.0 in
        let j : NodeId = node_of_vertex (b - length one.nodes) in
        let is : length one.nodes + j.place ≡ b = omega (arith, high) in
        let m = s.pairing.matches (node_of_vertex a) j more.1 in
        let inside = slice_get_within two.nodes j.place m.second m.is_second in
        let label : HaveOneLabel (tidied m.first) (tidied m.second) = record {
          shapes = m.match.shapes;
          names = same_names S Nodes 0 (length one.nodes) (tidied m.first).children (tidied m.second).children m.match.children;
          class = same_class S Nodes 0 (length one.nodes) (tidied m.first).other (tidied m.second).other m.match.other;
          twins = m.match.twins;
        } in
        let edges = paired_edges S Nodes 0 (length one.nodes) vertices_here (tidied m.first).children (tidied m.second).children
        (tidied m.first).other (tidied m.second).other m.match.children m.match.other in
        subst (Match g S a) is (record {
          one = omega (arith, low, long);
          two = omega (arith, inside, long);
          label = (one_label (node_of_vertex a) j m.first m.second m.is_first m.is_second).1 label;
          next = subst (λ l. AllZip S l (next_at g (length one.nodes + j.place))) (sym (first_next (node_of_vertex a) m.first m.is_first))
              (subst (AllZip S (edges_from 0 (tidied m.first))) (sym (second_next j m.second m.is_second)) edges);
        })

    pub graph_from_same : AreBisimilar g one.root.place (length one.nodes + two.root.place)
    graph_from_same = record {
      paired = paired_vertices;
      closed = match_vertices;
      here = subst (λ a. IsTrue (paired_vertices a (length one.nodes + two.root.place))) (zero-add one.root.place)
          (vertices_here one.root two.root s.roots);
    }
