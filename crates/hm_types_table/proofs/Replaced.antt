-- A node of the kind of another one over other nodes: it is well formed, and the table with it is one.
use Rattle.std.proofs.Common.{◌≡◌, ℕ, ◌<◌, T, IsTrue, List, [], ◌∷◌, ◌++◌, length, get_or, slice_get, Option, Some, None, IfSome, All, refl, sym, ap, subst, ◌∙◌, arith}
use Rattle.std.specs.List.{zip, list_any}
use Rattle.std.specs.Ordering.{eq_by_cmp}
use Rattle.std.specs.Option.{option_map}
use Rattle.std.specs.FinMap.Entries.{is_some-find}
use Rattle.std.proofs.lemmas.Option.{same_Some, none-some, slice_get_within, slice_get-map, slice_get_read}
use Rattle.std.proofs.lemmas.List.{length-map}
use Rattle.std.proofs.lemmas.List.Elements.{All-weaker}
use Rattle.std.proofs.lemmas.Slice.Zip.{firsts-zip}
use Rattle.hm_tree.specs.declared.class.Class.{Class}
use Rattle.hm_tree.specs.Names.{Name, name_cmp}
use Rattle.hm_schema.specs.declared.node.NodeId.{NodeId}
use Rattle.hm_schema.specs.declared.node.Shape.{Shape}
use Rattle.hm_schema.specs.Values.{NodeValue, is_listed}
use Rattle.hm_schema.specs.WellFormed.{IsWellFormedNode, IsWellFormedShape}
use Rattle.hm_schema.proofs.Lists.{all_read}
use Rattle.hm_types_table.specs.declared.kind.NodeKind.{NodeKind}
use Rattle.hm_types_table.specs.declared.vertex.Vertex.{Vertex}
use Rattle.hm_types_table.specs.Tables.{Nodes, seat, seat_if, row, rows, IsSeated, IsTable, keys, replaced, Replaces, CanReplace}
use Rattle.hm_types_table.proofs.Places.{there}
use Rattle.hm_types_table.proofs.Grown.{formed_at}
use Rattle.hm_types_table.proofs.Keys.{keys_size, sorted_same, all_zip}
use Rattle.hm_types_table.proofs.Rows.{rows_same, table_same}

-- ---- the node is well formed

module _ (nodes : Nodes) (n : NodeValue) (js : List NodeId) (o : Option (Class × NodeId)) (h : IsWellFormedNode (length nodes) n)
    (count : length js ≡ length n.children) (inside : All (λ j. j.place < length nodes) js) (fits : Replaces nodes n.other o) where
  pub same_keys : keys (zip (keys n.children) js) ≡ keys n.children
  same_keys = firsts-zip (keys n.children) js (count ∙ sym (keys_size n.children))

  listed_same : (k : Name) → is_listed n k ≡ is_listed (replaced n js o) k
  listed_same k = is_some-find name_cmp k n.children ∙ ap (list_any (eq_by_cmp name_cmp k)) (sym same_keys)
      ∙ sym (is_some-find name_cmp k (zip (keys n.children) js))

  shape_replaced : (s : Shape) → IsWellFormedShape n s → IsWellFormedShape (replaced n js o) s
  shape_replaced s f = record {
    listed = λ k t. sym (listed_same k) ∙ f.listed k t;
    apart = f.apart;
    ordered = f.ordered;
    none = λ e. f.none (back n.other o fits e);
  }
    where
      back : (p q : Option (Class × NodeId)) → Replaces nodes p q → q ≡ None → p ≡ None
      back None q r e = refl
      back (Some p) None r e = absurd r
      back (Some p) (Some q) r e = absurd (none-some q (sym e))

  pub replaced_well : IsWellFormedNode (length nodes) (replaced n js o)
  replaced_well = record {
    ascending = subst T (sym (sorted_same (zip (keys n.children) js) n.children same_keys)) h.ascending;
    children = all_zip (λ j. j.place < length nodes) (keys n.children) js inside;
    other = other n.other o fits;
    shapes = All-weaker (IsWellFormedShape n) (IsWellFormedShape (replaced n js o)) shape_replaced n.shapes h.shapes;
    some_shape = h.some_shape;
    twins = All-weaker (λ (t : Name × Name). IsTrue (is_listed n t.0) × IsTrue (is_listed n t.1))
        (λ (t : Name × Name). IsTrue (is_listed (replaced n js o) t.0) × IsTrue (is_listed (replaced n js o) t.1))
        (λ t p. (sym (listed_same t.0) ∙ p.0, sym (listed_same t.1) ∙ p.1)) n.twins h.twins;
  }
    where
      other : (p q : Option (Class × NodeId)) → Replaces nodes p q → IfSome q (λ q. q.1.place < length nodes)
      other None None r = tt
      other None (Some q) r = absurd r
      other (Some p) None r = absurd r
      other (Some p) (Some q) r = r.1

-- ---- a vertex of the kind of another one

pub record IsAnew (kinds : List NodeKind) (n : NodeValue) (v : Vertex) : Type 0 where
  pub seated : IsSeated kinds v
  pub row : row kinds v ≡ replaced n v.next.items v.other

anew : (kinds : List NodeKind) (vs : List Vertex) (i : ℕ) (n : NodeValue) (w v : Vertex) → IsTable kinds vs → slice_get (rows kinds vs) i ≡ Some n
    → slice_get vs i ≡ Some w → v.kind ≡ w.kind → length v.next.items ≡ length n.children → IsAnew kinds n v
anew kinds vs i n w v h e f same count = go (slice_get kinds w.kind) refl (all_read (IsSeated kinds) vs i w f h.seated)
  where
    row_is : row kinds w ≡ n
    row_is = same_Some (row kinds w) n (sym (slice_get-map (row kinds) vs i ∙ ap (option_map (row kinds)) f) ∙ e)

    go : (x : Option NodeKind) → slice_get kinds w.kind ≡ x → IsSeated kinds w → IsAnew kinds n v
    go None g s = let t = there kinds w.kind s.kind in absurd (none-some t.0 (sym g ∙ t.1))
    go (Some k) g s =
        let is : seat k w ≡ n = sym (ap (λ x. seat_if x w) g) ∙ row_is in
        let size : length w.next.items ≡ length k.names.items =
        subst (λ x. IfSome x (λ k. length w.next.items ≡ length k.names.items)) g s.count in
        let names : keys n.children ≡ k.names.items = sym (ap (λ (n : NodeValue). keys n.children) is) ∙ firsts-zip k.names.items w.next.items size in
        let sizes : length n.children ≡ length k.names.items = sym (keys_size n.children) ∙ ap length names in
        let at : slice_get kinds v.kind ≡ Some k = ap (slice_get kinds) same ∙ g in
        record {
          seated = record {
            kind = omega (arith, s.kind);
            count = subst (λ x. IfSome x (λ k. length v.next.items ≡ length k.names.items)) (sym at) (count ∙ sizes);
          };
          row =
              let back = sym names in
              ap (λ x. seat_if x v) at
              ∙ (λ i. record { shapes = (is i).shapes; children = zip (back i) v.next.items; other = v.other; twins = (is i).twins });
        }

module _ (kinds : List NodeKind) (vs : List Vertex) (nodes : Nodes) (id : NodeId) (w v : Vertex) (h : IsTable kinds vs) (are : rows kinds vs ≡ nodes)
    (can : CanReplace nodes id v.next.items v.other) (at : w ≡ get_or vs id.place w) (same : v.kind ≡ w.kind) where
  at_node : slice_get (rows kinds vs) id.place ≡ Some can.node
  at_node = ap (λ nodes. slice_get nodes id.place) are ∙ can.is

  at_vertex : slice_get vs id.place ≡ Some w
  at_vertex = slice_get_read vs (length vs) id.place w refl
      (omega (arith, slice_get_within (rows kinds vs) id.place can.node at_node, length-map vs (row kinds))) at

  new_row : IsAnew kinds can.node v
  new_row = anew kinds vs id.place can.node w v h at_node at_vertex same can.count

  pub table_replaced : IsTable kinds (vs ++ v ∷ [])
  table_replaced =
      let well : IsWellFormedNode (length nodes) can.node =
      subst (λ nodes. IsWellFormedNode (length nodes) can.node) are (formed_at (rows kinds vs) id can.node h.formed at_node) in
      table_same kinds vs nodes h are v (replaced can.node v.next.items v.other) new_row.row new_row.seated
      (replaced_well nodes can.node v.next.items v.other well can.count can.next can.other)

  pub rows_replaced : (n : NodeValue) → slice_get nodes id.place ≡ Some n → rows kinds (vs ++ v ∷ []) ≡ nodes ++ replaced n v.next.items v.other ∷ []
  rows_replaced n e = rows_same kinds vs nodes h are v (replaced can.node v.next.items v.other) new_row.row
      ∙ ap (λ n. nodes ++ replaced n v.next.items v.other ∷ []) (same_Some can.node n (sym can.is ∙ e))
