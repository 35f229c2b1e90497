-- The nodes of a table as it grows by kinds and vertices.
use Rattle.std.proofs.Common.{◌≡◌, ◌+◌, ◌<◌, List, [], ◌∷◌, ◌++◌, length, get_or, slice_get, Some, IfSome, All, refl, sym, ap, subst, ◌∙◌, arith, length-append}
use Rattle.std.specs.List.{zip}
use Rattle.std.specs.Option.{option_map}
use Rattle.std.proofs.lemmas.Option.{slice_get_read, slice_get-map}
use Rattle.hm_schema.proofs.Lists.{all_read}
use Rattle.std.specs.List.Sorted.{IsStrictlySortedBy}
use Rattle.std.proofs.lemmas.Slice.Zip.{firsts-zip}
use Rattle.std.proofs.lemmas.List.{map-append, length-map, append-nil}
use Rattle.std.proofs.lemmas.List.Elements.{All-head, All-tail, All-weaker, All-append, All-cons, All-nil}
use Rattle.hm_schema.specs.declared.node.NodeId.{NodeId}
use Rattle.hm_schema.specs.Values.{NodeValue}
use Rattle.hm_schema.specs.WellFormed.{IsWellFormedNode}
use Rattle.hm_types_table.specs.declared.kind.NodeKind.{NodeKind}
use Rattle.hm_types_table.specs.declared.vertex.Vertex.{Vertex}
use Rattle.hm_types_table.specs.Tables.{Nodes, AreFormed, seat, seat_if, row, rows, IsSeated, IsTable}
use Rattle.hm_types_table.proofs.Places.{at_front, at_last}
use Rattle.hm_types_table.proofs.Grown.{well_more, formed_at}
use Rattle.hm_types_table.proofs.Keys.{rising}
use Rattle.hm_tree.specs.Names.{name_cmp}

pub formed_more : (old news : Nodes) → AreFormed old → All (IsWellFormedNode (length old + length news)) news → AreFormed (old ++ news)
formed_more old news h all = subst (λ count. All (IsWellFormedNode count) (old ++ news)) (sym (length-append old news))
    (All-append (IsWellFormedNode (length old + length news)) old news
    (All-weaker (IsWellFormedNode (length old)) (IsWellFormedNode (length old + length news))
    (λ n. well_more (length old) (length old + length news) n (omega arith)) old h) all)

module _ (kinds ks : List NodeKind) where
  kind_front : (v : Vertex) → IsSeated kinds v → slice_get (kinds ++ ks) v.kind ≡ slice_get kinds v.kind
  kind_front v s = at_front kinds ks v.kind s.kind

  pub rows_kinds : (vs : List Vertex) → All (IsSeated kinds) vs → rows (kinds ++ ks) vs ≡ rows kinds vs
  rows_kinds [] h = refl
  rows_kinds (v ∷ vs) h =
      let one = ap (λ x. seat_if x v) (kind_front v (All-head (IsSeated kinds) v vs h)) in
      let more = rows_kinds vs (All-tail (IsSeated kinds) v vs h) in
      λ i. one i ∷ more i

  pub seats_kinds : (vs : List Vertex) → All (IsSeated kinds) vs → All (IsSeated (kinds ++ ks)) vs
  seats_kinds vs h = All-weaker (IsSeated kinds) (IsSeated (kinds ++ ks)) (λ v s. record {
    kind = omega (arith, s.kind, length-append kinds ks);
    count = subst (λ x. IfSome x (λ k. length v.next.items ≡ length k.names.items)) (sym (kind_front v s)) s.count;
  }) vs h

module _ (kinds : List NodeKind) (vs : List Vertex) (nodes : Nodes) (h : IsTable kinds vs) (are : rows kinds vs ≡ nodes) (ks : List NodeKind) where
  -- kinds of no node change nothing
  pub rows_kept : rows (kinds ++ ks) vs ≡ nodes
  rows_kept = rows_kinds kinds ks vs h.seated ∙ are

  pub table_kept : IsTable (kinds ++ ks) vs
  table_kept = record { formed = subst AreFormed (sym (rows_kinds kinds ks vs h.seated)) h.formed; seated = seats_kinds kinds ks vs h.seated }

  module _ (us : List Vertex) (news : Nodes) (is : rows (kinds ++ ks) us ≡ news) where
    pub rows_grown : rows (kinds ++ ks) (vs ++ us) ≡ nodes ++ news
    rows_grown = map-append (row (kinds ++ ks)) vs us ∙ (λ i. rows_kept i ++ is i)

    pub table_grown : All (IsSeated (kinds ++ ks)) us → All (IsWellFormedNode (length nodes + length news)) news → IsTable (kinds ++ ks) (vs ++ us)
    table_grown seats all = record {
      formed = subst AreFormed (sym rows_grown) (formed_more nodes news (subst AreFormed are h.formed) all);
      seated = All-append (IsSeated (kinds ++ ks)) vs us (seats_kinds kinds ks vs h.seated) seats;
    }

  pub rows_length : length nodes ≡ length vs
  rows_length = sym (ap length are) ∙ length-map vs (row kinds)

-- ---- one node of a new kind

module _ (kinds : List NodeKind) (vs : List Vertex) (nodes : Nodes) (h : IsTable kinds vs) (are : rows kinds vs ≡ nodes)
    (k : NodeKind) (v : Vertex) (at : v.kind ≡ length kinds) where
  kind_at : slice_get (kinds ++ k ∷ []) v.kind ≡ Some k
  kind_at = ap (slice_get (kinds ++ k ∷ [])) at ∙ at_last kinds k

  row_at : rows (kinds ++ k ∷ []) (v ∷ []) ≡ seat k v ∷ []
  row_at = ap (λ x. seat_if x v ∷ []) kind_at

  pub rows_one : rows (kinds ++ k ∷ []) (vs ++ v ∷ []) ≡ nodes ++ seat k v ∷ []
  rows_one = rows_grown kinds vs nodes h are (k ∷ []) (v ∷ []) (seat k v ∷ []) row_at

  pub table_one : length v.next.items ≡ length k.names.items → IsWellFormedNode (length nodes + 1) (seat k v) → IsTable (kinds ++ k ∷ []) (vs ++ v ∷ [])
  table_one count well = table_grown kinds vs nodes h are (k ∷ []) (v ∷ []) (seat k v ∷ []) row_at
      (All-cons (IsSeated (kinds ++ k ∷ [])) v [] (record {
        kind = omega (arith, at, length-append kinds (k ∷ []));
        count = subst (λ x. IfSome x (λ k. length v.next.items ≡ length k.names.items)) (sym kind_at) count;
      }) (All-nil (IsSeated (kinds ++ k ∷ []))))
      (All-cons (IsWellFormedNode (length nodes + 1)) (seat k v) [] well (All-nil (IsWellFormedNode (length nodes + 1))))

-- ---- one node of a kind that is there

module _ (kinds : List NodeKind) (vs : List Vertex) (nodes : Nodes) (h : IsTable kinds vs) (are : rows kinds vs ≡ nodes)
    (v : Vertex) (n : NodeValue) (is : row kinds v ≡ n) where
  same_kinds : kinds ++ [] ≡ kinds
  same_kinds = append-nil kinds

  row_same : rows (kinds ++ []) (v ∷ []) ≡ n ∷ []
  row_same = ap (λ kinds. rows kinds (v ∷ [])) same_kinds ∙ ap (λ n. n ∷ []) is

  pub rows_same : rows kinds (vs ++ v ∷ []) ≡ nodes ++ n ∷ []
  rows_same = ap (λ kinds. rows kinds (vs ++ v ∷ [])) (sym same_kinds) ∙ rows_grown kinds vs nodes h are [] (v ∷ []) (n ∷ []) row_same

  pub table_same : IsSeated kinds v → IsWellFormedNode (length nodes) n → IsTable kinds (vs ++ v ∷ [])
  table_same s well = subst (λ kinds. IsTable kinds (vs ++ v ∷ [])) same_kinds
      (table_grown kinds vs nodes h are [] (v ∷ []) (n ∷ []) row_same
      (All-cons (IsSeated (kinds ++ [])) v [] (subst (λ kinds. IsSeated kinds v) (sym same_kinds) s) (All-nil (IsSeated (kinds ++ []))))
      (All-cons (IsWellFormedNode (length nodes + 1)) n [] (well_more (length nodes) (length nodes + 1) n (omega arith) well)
      (All-nil (IsWellFormedNode (length nodes + 1)))))

-- the names of a kind rise
pub kind_rises : (kinds : List NodeKind) (vs : List Vertex) (i : NodeId) (k : NodeKind) (v : Vertex) → IsTable kinds vs → i.place < length (rows kinds vs)
    → v ≡ get_or vs i.place v → k ≡ get_or kinds v.kind k → IsStrictlySortedBy name_cmp k.names.items
kind_rises kinds vs i k v h lt at is =
    let vertex = slice_get_read vs (length vs) i.place v refl (omega (arith, lt, length-map vs (row kinds))) at in
    let s = all_read (IsSeated kinds) vs i.place v vertex h.seated in
    let kind = slice_get_read kinds (length kinds) v.kind k refl s.kind is in
    let count : length v.next.items ≡ length k.names.items = subst (λ x. IfSome x (λ k. length v.next.items ≡ length k.names.items)) kind s.count in
    let node : slice_get (rows kinds vs) i.place ≡ Some (seat k v) =
    slice_get-map (row kinds) vs i.place ∙ ap (option_map (row kinds)) vertex ∙ ap (λ x. Some (seat_if x v)) kind in
    subst (IsStrictlySortedBy name_cmp) (firsts-zip k.names.items v.next.items count)
    (rising (zip k.names.items v.next.items) (formed_at (rows kinds vs) i (seat k v) h.formed node).ascending)
