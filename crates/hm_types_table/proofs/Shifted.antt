-- The nodes of a schema behind the nodes of a table: they are well formed there, and stand for the same forms.
use Rattle.std.proofs.Common.{◌≡◌, ℕ, ◌+◌, ◌<◌, ◌≤◌, IsTrue, IfSome, List, [], ◌∷◌, ◌++◌, length, map, take, get_or, slice_get, Option, Some, None, All, option_and_then, refl, sym, ap, subst, ◌∙◌, arith, length-append, append_assoc}
use Rattle.std.specs.Option.{option_map}
use Rattle.std.specs.List.{zip}
use Rattle.std.proofs.lemmas.Option.{slice_get-map, slice_get_read}
use Rattle.std.proofs.lemmas.List.{map-append, length-map, take_more}
use Rattle.std.proofs.lemmas.List.Elements.{All-nil, All-cons, All-append, All-map, All-weaker}
use Rattle.hm_tree.specs.declared.class.Class.{Class}
use Rattle.hm_tree.specs.Names.{Name}
use Rattle.hm_schema.specs.declared.node.NodeId.{NodeId}
use Rattle.hm_schema.specs.Values.{NodeValue, node_value, is_listed}
use Rattle.hm_schema.specs.declared.node.Node.{Node}
use Rattle.hm_schema.proofs.Lists.{all_read}
use Rattle.hm_schema.specs.WellFormed.{IsWellFormedNode, IsWellFormedShape}
use Rattle.hm_types_forms.specs.Forms.{Way, form, label_of, next_of}
use Rattle.hm_types_table.specs.declared.kind.NodeKind.{NodeKind}
use Rattle.hm_types_table.specs.declared.vertex.Vertex.{Vertex}
use Rattle.hm_types_table.specs.Tables.{Nodes, seat, seat_if, row, rows, IsSeated, IsTable, keys, shift, shifted, AreShifted}
use Rattle.hm_types_table.proofs.Places.{at_behind, at_last}
use Rattle.hm_types_table.proofs.Rows.{rows_kinds, seats_kinds, rows_grown, table_grown}
use Rattle.hm_types_table.proofs.Forms.{sorted_over, is_listed_over, label_over, next_over}

-- ---- the forms

module _ (old nodes : Nodes) where
  abbrev new : Nodes
  new = old ++ map (shifted (length old)) nodes

  here : (i : NodeId) → slice_get new (shift (length old) i).place ≡ option_map (shifted (length old)) (slice_get nodes i.place)
  here i = at_behind old (map (shifted (length old)) nodes) i.place ∙ slice_get-map (shifted (length old)) nodes i.place

  at_way : (w : Way) (i : NodeId) → form new (shift (length old) i) w ≡ form nodes i w
  at_way [] i = ap (option_map label_of) (here i) ∙ go (slice_get nodes i.place)
    where
      go : (x : Option NodeValue) → option_map label_of (option_map (shifted (length old)) x) ≡ option_map label_of x
      go None = refl
      go (Some n) = ap Some (label_over (λ s. shift (length old)) n)
  at_way (s ∷ w) i = ap (option_and_then (λ n. option_and_then (λ j. form new j w) (next_of n s))) (here i)
      ∙ go (slice_get nodes i.place) (λ j. at_way w j)
    where
      next : (x : Option NodeId) → ((j : NodeId) → form new (shift (length old) j) w ≡ form nodes j w)
          → option_and_then (λ j. form new j w) (option_map (shift (length old)) x) ≡ option_and_then (λ j. form nodes j w) x
      next None rest = refl
      next (Some j) rest = rest j

      go : (x : Option NodeValue) → ((j : NodeId) → form new (shift (length old) j) w ≡ form nodes j w)
          → option_and_then (λ n. option_and_then (λ j. form new j w) (next_of n s)) (option_map (shifted (length old)) x)
          ≡ option_and_then (λ n. option_and_then (λ j. form nodes j w) (next_of n s)) x
      go None rest = refl
      go (Some n) rest = ap (option_and_then (λ j. form new j w)) (next_over (λ s. shift (length old)) n s) ∙ next (next_of n s) rest

  -- a node of the schema stands for the same form there
  pub form_shifted : (i : NodeId) → form (old ++ map (shifted (length old)) nodes) (shift (length old) i) ≡ form nodes i
  form_shifted i = λ p w. at_way w i p

-- ---- they are well formed

shifted_well : (by count : ℕ) (n : NodeValue) → IsWellFormedNode count n → IsWellFormedNode (by + count) (shifted by n)
shifted_well by count n w = record {
  ascending = sorted_over (λ s. shift by) n.children w.ascending;
  children = All-map (λ (c : Name × NodeId). c.1.place < by + count) (λ (c : Name × NodeId). (c.0, shift by c.1)) n.children
      (All-weaker (λ (c : Name × NodeId). c.1.place < count) (λ (c : Name × NodeId). by + c.1.place < by + count) (λ c lt. omega (arith, lt)) n.children w.children);
  other = other n.other w.other;
  shapes = All-weaker (IsWellFormedShape n) (IsWellFormedShape (shifted by n)) (λ a s. record {
    listed = λ k h. is_listed_over (λ s. shift by) n k ∙ s.listed k h;
    apart = s.apart;
    ordered = s.ordered;
    none = λ e. s.none (back n.other e);
  }) n.shapes w.shapes;
  some_shape = w.some_shape;
  twins = All-weaker (λ (t : Name × Name). IsTrue (is_listed n t.0) × IsTrue (is_listed n t.1))
      (λ (t : Name × Name). IsTrue (is_listed (shifted by n) t.0) × IsTrue (is_listed (shifted by n) t.1))
      (λ t p. (is_listed_over (λ s. shift by) n t.0 ∙ p.0, is_listed_over (λ s. shift by) n t.1 ∙ p.1)) n.twins w.twins;
}
  where
    other : (o : Option (Class × NodeId)) → IfSome o (λ o. o.1.place < count)
        → IfSome (option_map {U = Class × NodeId} (λ o. (o.0, shift by o.1)) o) (λ o. o.1.place < by + count)
    other None h = tt
    other (Some o) h = omega (arith, h)

    back : (o : Option (Class × NodeId)) → option_map {U = Class × NodeId} (λ o. (o.0, shift by o.1)) o ≡ None → o ≡ None
    back None e = refl
    back (Some o) e = let f : ⊥ = cc in absurd f

-- ---- their kinds and vertices

zip_keys : (by : ℕ) (cs : List (Name × NodeId)) → zip (keys cs) (map (λ c. shift by c.1) cs) ≡ map {B = Name × NodeId} (λ c. (c.0, shift by c.1)) cs
zip_keys by [] = refl
zip_keys by (c ∷ cs) = ap (λ l. (c.0, shift by c.1) ∷ l) (zip_keys by cs)

-- a kind and a vertex of a node
pub record IsOf (by : ℕ) (n : NodeValue) (k : NodeKind) (v : Vertex) : Type 0 where
  pub shapes : k.shapes.items ≡ n.shapes
  pub names : k.names.items ≡ keys n.children
  pub twins : k.twins.items ≡ n.twins
  pub next : v.next.items ≡ map (λ c. shift by c.1) n.children
  pub other : v.other ≡ option_map (λ o. (o.0, shift by o.1)) n.other

module _ (by : ℕ) (n : NodeValue) (k : NodeKind) (v : Vertex) (is : IsOf by n k v) where
  seat_shifted : seat k v ≡ shifted by n
  seat_shifted =
      let cs : zip k.names.items v.next.items ≡ (shifted by n).children = (λ i. zip (is.names i) (is.next i)) ∙ zip_keys by n.children in
      λ i. record { shapes = is.shapes i; children = cs i; other = is.other i; twins = is.twins i }

  seat_size : length v.next.items ≡ length k.names.items
  seat_size = ap length is.next ∙ length-map n.children (λ c. shift by c.1) ∙ sym (ap length is.names ∙ length-map n.children (λ c. c.0))

pub shifted_none : (first by : ℕ) (kinds : List NodeKind) (vs : List Vertex) → kinds ≡ [] → vs ≡ [] → AreShifted first by kinds vs []
shifted_none first by kinds vs e f = record {
  count = ap length e;
  rows = λ before size. ap (rows (before ++ kinds)) f;
  seated = λ before size. subst (All (IsSeated (before ++ kinds))) (sym f) (All-nil (IsSeated (before ++ kinds)));
}

pub shifted_more : (first by : ℕ) (kinds : List NodeKind) (vs : List Vertex) (nodes : Nodes) (k : NodeKind) (v : Vertex) (n : NodeValue)
    → AreShifted first by kinds vs nodes → v.kind ≡ first + length kinds → IsOf by n k v
    → AreShifted first by (kinds ++ k ∷ []) (vs ++ v ∷ []) (nodes ++ n ∷ [])
shifted_more first by kinds vs nodes k v n a at is = record {
  count = (let c = a.count in omega (arith, length-append kinds (k ∷ []), length-append nodes (n ∷ [])));
  rows = λ before size. ap (λ kinds. rows kinds (vs ++ v ∷ [])) (sym (append_assoc before kinds (k ∷ [])))
      ∙ map-append (row ((before ++ kinds) ++ k ∷ [])) vs (v ∷ [])
      ∙ (λ i. (rows_kinds (before ++ kinds) (k ∷ []) vs (a.seated before size) ∙ a.rows before size) i
      ++ (ap (λ x. seat_if x v) (kind_at before size) ∙ seat_shifted by n k v is) i ∷ [])
      ∙ sym (map-append (shifted by) nodes (n ∷ []));
  seated = λ before size. subst (λ kinds. All (IsSeated kinds) (vs ++ v ∷ [])) (append_assoc before kinds (k ∷ []))
      (All-append (IsSeated ((before ++ kinds) ++ k ∷ [])) vs (v ∷ []) (seats_kinds (before ++ kinds) (k ∷ []) vs (a.seated before size))
      (All-cons (IsSeated ((before ++ kinds) ++ k ∷ [])) v [] (record {
        kind = omega (arith, at, size, length-append before kinds, length-append (before ++ kinds) (k ∷ []));
        count = subst (λ x. IfSome x (λ k. length v.next.items ≡ length k.names.items)) (sym (kind_at before size)) (seat_size by n k v is);
      }) (All-nil (IsSeated ((before ++ kinds) ++ k ∷ [])))));
}
  where
    kind_at : (before : List NodeKind) → length before ≡ first → slice_get ((before ++ kinds) ++ k ∷ []) v.kind ≡ Some k
    kind_at before size =
        let last : v.kind ≡ length (before ++ kinds) = omega (arith, at, size, length-append before kinds) in
        ap (slice_get ((before ++ kinds) ++ k ∷ [])) last ∙ at_last (before ++ kinds) k

-- ---- the table with them

module _ (kinds ks : List NodeKind) (vs us : List Vertex) (nodes more : Nodes) (h : IsTable kinds vs) (are : rows kinds vs ≡ nodes)
    (a : AreShifted (length kinds) (length nodes) ks us more) where
  pub rows_shifted : rows (kinds ++ ks) (vs ++ us) ≡ nodes ++ map (shifted (length nodes)) more
  rows_shifted = rows_grown kinds vs nodes h are ks us (map (shifted (length nodes)) more) (a.rows kinds refl)

  pub table_shifted : All (IsWellFormedNode (length more)) more → IsTable (kinds ++ ks) (vs ++ us)
  table_shifted all = table_grown kinds vs nodes h are ks us (map (shifted (length nodes)) more) (a.rows kinds refl) (a.seated kinds refl)
      (subst (λ count. All (IsWellFormedNode (length nodes + count)) (map (shifted (length nodes)) more))
      (sym (length-map more (shifted (length nodes))))
      (All-map (IsWellFormedNode (length nodes + length more)) (shifted (length nodes)) more
      (All-weaker (IsWellFormedNode (length more)) (λ n. IsWellFormedNode (length nodes + length more) (shifted (length nodes) n))
      (λ n w. shifted_well (length nodes) (length more) n w) more all)))

-- ---- there is room for their references

pub room : (by count limit : ℕ) (n : NodeValue) → by + count ≤ limit → IsWellFormedNode count n
    → All (λ (c : Name × NodeId). by + c.1.place < limit) n.children × IfSome n.other (λ o. by + o.1.place < limit)
room by count limit n le w = (
  All-weaker (λ (c : Name × NodeId). c.1.place < count) (λ (c : Name × NodeId). by + c.1.place < limit) (λ c lt. omega (arith, lt, le)) n.children w.children,
  other n.other w.other,
)
  where
    other : (o : Option (Class × NodeId)) → IfSome o (λ o. o.1.place < count) → IfSome o (λ o. by + o.1.place < limit)
    other None h = tt
    other (Some o) h = omega (arith, h, le)

-- a node of the list is well formed
pub well_at : (count : ℕ) (nodes : List Node) (i : ℕ) (n : Node) → All (IsWellFormedNode count) (map node_value nodes) → i < length nodes → n ≡ get_or nodes i n
    → IsWellFormedNode count (node_value n)
well_at count nodes i n all lt is = all_read (IsWellFormedNode count) (map node_value nodes) i (node_value n)
    (slice_get-map node_value nodes i ∙ ap (option_map node_value) (slice_get_read nodes (length nodes) i n refl lt is)) all

-- the nodes up to the next one
pub values_more : (nodes : List Node) (i : ℕ) (n : Node) → i < length nodes → n ≡ get_or nodes i n
    → map node_value (take (i + 1) nodes) ≡ map node_value (take i nodes) ++ node_value n ∷ []
values_more nodes i n lt is = ap (map node_value) (take_more nodes i n lt ∙ ap (λ n. take i nodes ++ n ∷ []) (sym is))
    ∙ map-append node_value (take i nodes) (n ∷ [])

-- ---- nodes that stay in their places

none_children : (cs : List (Name × NodeId)) → map {B = Name × NodeId} (λ c. (c.0, shift 0 c.1)) cs ≡ cs
none_children [] = refl
none_children (c ∷ cs) =
    let place : 0 + c.1.place ≡ c.1.place = omega arith in
    let rest = none_children cs in
    λ t. (c.0, record { place = place t }) ∷ rest t

none_other : (o : Option (Class × NodeId)) → option_map {U = Class × NodeId} (λ o. (o.0, shift 0 o.1)) o ≡ o
none_other None = refl
none_other (Some o) = let place : 0 + o.1.place ≡ o.1.place = omega arith in λ t. Some (o.0, record { place = place t })

pub shifted_zero : (nodes : Nodes) → map (shifted 0) nodes ≡ nodes
shifted_zero [] = refl
shifted_zero (n ∷ nodes) =
    let cs = none_children n.children in
    let o = none_other n.other in
    let rest = shifted_zero nodes in
    λ t. record { shapes = n.shapes; children = cs t; other = o t; twins = n.twins } ∷ rest t
