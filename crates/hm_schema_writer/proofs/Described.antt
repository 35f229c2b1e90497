-- The lines of written nodes describe these nodes.
use Rattle.std.proofs.Common.{◌≡◌, ◌⊎◌, inl, inr, ℕ, suc, ◌+◌, ◌≤◌, true, List, [], ◌∷◌, ◌++◌, length, map, Some, None, refl, sym, ap, subst, ◌∙◌, arith, slice_get, count_by, filter_map}
use Rattle.std.specs.Prelude.{codes}
use Rattle.std.specs.List.{Contains, cons_option}
use Rattle.std.specs.FinMap.{find}
use Rattle.std.proofs.lemmas.Bool.{true≢false}
use Rattle.hm_tree.specs.Names.{Name, name_cmp}
use Rattle.hm_tree.specs.declared.class.Class.{Class}
use Rattle.hm_schema.specs.declared.node.NodeId.{NodeId}
use Rattle.hm_schema.specs.Values.{NodeValue}
use Rattle.hm_schema_lines.specs.NodeLines.{NodeLineValue, node, edge, other, shape, is_inside}
use Rattle.hm_schema_lines.specs.Entries.{EntryValue, skipped, unknown, says}
use Rattle.hm_schema_lines.specs.BadLines.{Says, begins_node, nodes_before, behind}
use Rattle.hm_schema_lines.specs.Firsts.{begun_name, node_names}
use Rattle.hm_schema_lines.specs.Nodes.{IsPlaceOf, declared, empty, shapes_in, as_shape, IsNodeOf, AreNodesOf, NamesEmpty, AreTypeNames, named_by, empty_node}
use Rattle.hm_schema_writer.specs.WrittenNodes.{name_at, inner_lines, declared_names, lines_under, SaysNothing, IsWritableNode, IsWritable, AreOfNodes}
use Rattle.hm_schema_lines.proofs.Laws.{at_place, brings, empty_or, found_from, from_place, length_names, place_once}
use Rattle.hm_schema_writer.proofs.DeclaredNames.{declared_long, declared_short, declared_all, declared_at_most}
use Rattle.hm_schema_writer.proofs.WrittenCuts.{IsInner, an_edge, an_other, a_shape, inner_is, edge_in, other_in, all_inside, inner_rest, IsCut}
use Rattle.hm_schema_writer.proofs.SortedEntries.{find_in}
use Rattle.hm_schema_writer.proofs.WrittenLines.{begun, behind_line, contains_behind, writable, empty_last, node_cut, child_there, other_there}
use Rattle.hm_schema_writer.proofs.WrittenShapes.{shapes_behind}
use Rattle.hm_schema_writer.proofs.WrittenSound.{name_place, written_sound}

-- ---- the names that lines declare

no_name : (x : NodeLineValue) → is_inside x ≡ true → begun_name (says x) ≡ None
no_name (node w) h = absurd (true≢false (sym h))
no_name (edge k w) h = refl
no_name (other c w) h = refl
no_name (shape s) h = refl

names_inside : (xs : List NodeLineValue) (es : List EntryValue) → ((m : ℕ) (x : NodeLineValue) → slice_get xs m ≡ Some x → is_inside x ≡ true)
    → node_names (map says xs ++ es) ≡ node_names es
names_inside [] es h = refl
names_inside (x ∷ xs) es h =
    ap (λ o. cons_option o (node_names (map says xs ++ es))) (no_name x (h 0 x refl)) ∙ names_inside xs es (λ m y is. h (suc m) y is)

names_before : (front es : List EntryValue) → SaysNothing front → node_names (front ++ es) ≡ node_names es
names_before [] es h = refl
names_before (skipped ∷ front) es h = names_before front es (λ x c. h x (suc c.0, omega (arith, c.1), c.2))
names_before (unknown ∷ front) es h = names_before front es (λ x c. h x (suc c.0, omega (arith, c.1), c.2))
names_before (says x ∷ front) es h = absurd (h x (0, omega arith, refl))

names_none : (es : List EntryValue) → SaysNothing es → node_names es ≡ []
names_none [] h = refl
names_none (skipped ∷ es) h = names_none es (λ x c. h x (suc c.0, omega (arith, c.1), c.2))
names_none (unknown ∷ es) h = names_none es (λ x c. h x (suc c.0, omega (arith, c.1), c.2))
names_none (says x ∷ es) h = absurd (h x (0, omega arith, refl))

names_under : (names : List Name) (back : List EntryValue) → SaysNothing back → (ws : List Name) (ns : List NodeValue) → length ws ≤ length ns
    → node_names (map says (lines_under names ws ns) ++ back) ≡ ws
names_under names back none [] ns long = names_none back none
names_under names back none (w ∷ ws) [] long = absurd (omega (arith, long))
names_under names back none (w ∷ ws) (n ∷ ns) long =
    ap (λ z. w ∷ node_names z) (inner_rest names back none ws n ns)
    ∙ ap (λ z. w ∷ z) (names_inside (inner_lines names n) (map says (lines_under names ws ns) ++ back) (all_inside names n)
    ∙ names_under names back none ws ns (omega (arith, long)))

module _ (names : List Name) (nodes : List NodeValue) (h : IsWritable names nodes) (es : List EntryValue) (a : AreOfNodes names nodes es) where
  pub written_names : node_names es ≡ declared_names names
  written_names =
      ap node_names a.is
      ∙ names_before a.front (map says (lines_under names (declared_names names) nodes) ++ a.back) a.before
      ∙ names_under names a.back a.behind (declared_names names) nodes (let l = declared_at_most names in let n = h.named in omega arith)

  count_is : count_by begins_node es ≡ length (declared_names names)
  count_is = sym (length_names es) ∙ ap length written_names

  pub written_places : (i : ℕ) (w : Name) → slice_get names i ≡ Some w → IsPlaceOf es w i
  written_places i w is = go (empty_or w)
    where
      go : (w ≡ codes "Empty") ⊎ ((w ≡ codes "Empty") → ⊥) → IsPlaceOf es w i
      go (inl same) =
          let place : count_by begins_node es ≡ i =
          count_is ∙ declared_long names (empty_last names nodes h es a) i (is ∙ ap Some same) in
          subst (λ (z : Name × ℕ). IsPlaceOf es z.0 z.1) (λ j. (sym same j, place j)) empty
      go (inr differs) =
          let c = node_cut names nodes h es a i w is differs in
          subst (IsPlaceOf es w) c.2.before (declared c.0 c.2.at)

  -- ---- one node

  module _ (i : ℕ) (w : Name) (n : NodeValue) (k : ℕ) (f : IsWritableNode (length nodes) n) (c : IsCut names es i w n k) where
    same_place : (v : Name) (p q : ℕ) → IsPlaceOf es v p → IsPlaceOf es v q → p ≡ q
    same_place = place_once es (written_sound names nodes h es a)

    child_to : (q : Name) (id : NodeId) → find name_cmp q n.children ≡ Some id
        → (v : Name) × Contains (behind es i) (says (edge q v)) × IsPlaceOf es v id.place
    child_to q id found =
        let m = found_from q id n.children found in
        let child : Name × NodeId = (q, id) in (
          name_at names id,
          contains_behind names nodes h es a i w n k c m.0 (edge q (name_at names id)) (edge_in names n m.0 child m.1),
          written_places id.place (name_at names id) (child_there names nodes h es a n f m.0 child m.1),
        )

    same_id : (id other_id : NodeId) → id.place ≡ other_id.place → id ≡ other_id
    same_id id other_id e = ap (λ p. record { place = p }) e

    edge_parts : (q v l u : Name) → edge q v ≡ edge l u → (q ≡ l) × (v ≡ u)
    edge_parts q v l u e = (cc, cc)

    child_from : (q : Name) (id : NodeId) (v : Name) → Contains (behind es i) (says (edge q v)) → IsPlaceOf es v id.place
        → find name_cmp q n.children ≡ Some id
    child_from q id v there place =
        let p = at_place (behind es i) (says (edge q v)) there in
        go p.0 (inner_is names n p.0 (edge q v) (behind_line names nodes h es a i w n k c p.0 (edge q v) p.1))
      where
        go : (m : ℕ) → IsInner names n m (edge q v) → find name_cmp q n.children ≡ Some id
        go m (an_edge child at same) =
            let parts = edge_parts child.0 (name_at names child.1) q v same in
            let there = written_places child.1.place (name_at names child.1) (child_there names nodes h es a n f m child at) in
            let id_is : child.1 ≡ id = same_id child.1 id (same_place v child.1.place id.place
            (subst (λ (u : Name). IsPlaceOf es u child.1.place) parts.1 there) place) in
            find_in n.children f.formed.ascending m q id (at ∙ (λ j. Some (parts.0 j, id_is j)))
        go m (an_other o at at_end same) = let g : ⊥ = cc in absurd g
        go m (a_shape t r at same) = let g : ⊥ = cc in absurd g

    other_to : (d : Class) (id : NodeId) → n.other ≡ Some (d, id)
        → (v : Name) × Contains (behind es i) (says (other d v)) × IsPlaceOf es v id.place
    other_to d id is =
        let o : Class × NodeId = (d, id) in (
          name_at names id,
          contains_behind names nodes h es a i w n k c _ (other d (name_at names id)) (other_in names n o is),
          written_places id.place (name_at names id) (other_there names nodes h es a n f o is),
        )

    other_parts : (d e : Class) (v u : Name) → other d v ≡ other e u → (d ≡ e) × (v ≡ u)
    other_parts d e v u same = (cc, cc)

    other_from : (d : Class) (id : NodeId) (v : Name) → Contains (behind es i) (says (other d v)) → IsPlaceOf es v id.place → n.other ≡ Some (d, id)
    other_from d id v there place =
        let p = at_place (behind es i) (says (other d v)) there in
        go p.0 (inner_is names n p.0 (other d v) (behind_line names nodes h es a i w n k c p.0 (other d v) p.1))
      where
        go : (m : ℕ) → IsInner names n m (other d v) → n.other ≡ Some (d, id)
        go m (an_other o at at_end same) =
            let parts = other_parts o.0 d (name_at names o.1) v same in
            let there = written_places o.1.place (name_at names o.1) (other_there names nodes h es a n f o at) in
            let id_is : o.1 ≡ id = same_id o.1 id (same_place v o.1.place id.place
            (subst (λ (u : Name). IsPlaceOf es u o.1.place) parts.1 there) place) in
            at ∙ (λ j. Some (parts.0 j, id_is j))
        go m (an_edge child at same) = let g : ⊥ = cc in absurd g
        go m (a_shape t r at same) = let g : ⊥ = cc in absurd g

    is_node_of : IsNodeOf es (behind es i) n
    is_node_of = record {
      shapes = sym (shapes_behind names n c.tail c.nothing) ∙ ap (λ z. map as_shape (shapes_in z)) (sym c.behind_is);
      ascending = f.formed.ascending;
      children = λ q id. (child_to q id, λ p. child_from q id p.0 p.1 p.2);
      other = λ d id. (other_to d id, λ p. other_from d id p.0 p.1 p.2);
      twins = f.twins;
    }

  -- ---- all nodes

  node_line : (i : ℕ) (w : Name) → Says es i (node w) → (n : NodeValue) × (slice_get nodes (nodes_before es i) ≡ Some n) × IsNodeOf es (behind es i) n
  node_line i w is =
      let b = begun names nodes h es a i w is in
      (b.value, ap (slice_get nodes) b.cut.before ∙ b.is, is_node_of i w b.value b.order (writable names nodes h es a b.order b.value b.is) b.cut)

  module _ (own : List Name) (is_named : Contains names (codes "Empty") → NamesEmpty es own)
      (is_name : Contains own (codes "Empty") → Contains names (codes "Empty")) where
    -- a line that names `Empty` has it from the names
    line_name : Contains (filter_map named_by es) (codes "Empty") → Contains names (codes "Empty")
    line_name c =
        let b = brings named_by es (codes "Empty") c in
        let l = at_place es b.0 b.1 in
        go b.0 l.0 l.1 b.2
      where
        go : (e : EntryValue) (i : ℕ) → slice_get es i ≡ Some e → named_by e ≡ Some (codes "Empty") → Contains names (codes "Empty")
        go skipped i is name = let g : ⊥ = cc in absurd g
        go unknown i is name = let g : ⊥ = cc in absurd g
        go (says x) i is name =
            let p = name_place names nodes h es a i x (codes "Empty") is name in
            from_place names (codes "Empty") p

    named_is : NamesEmpty es own → Contains names (codes "Empty")
    named_is (inl line) = line_name line
    named_is (inr there) = is_name there

    last_place : (c : Contains names (codes "Empty")) → (slice_get nodes (count_by begins_node es) ≡ Some empty_node)
        × (length nodes ≡ count_by begins_node es + 1) × (names ≡ declared_names names ++ codes "Empty" ∷ [])
    last_place c =
        let p = at_place names (codes "Empty") c in
        let l = h.last p.0 p.1 in
        let long = declared_long names (empty_last names nodes h es a) p.0 p.1 in
        let place : count_by begins_node es ≡ p.0 = count_is ∙ long in
        let same = h.named in (
          ap (slice_get nodes) place ∙ l.1,
          omega (arith, place, l.0, same),
          declared_all names (empty_last names nodes h es a) p.0 p.1,
        )

    none_place : ¬ (NamesEmpty es own) → declared_names names ≡ names
    none_place none = declared_short names (λ i is. none (is_named (from_place names (codes "Empty") (i, is))))

    pub written_nodes : AreNodesOf es own nodes
    written_nodes = record {
      lines = node_line;
      empty = λ n. (last_place (named_is n)).0;
      long = λ n. (last_place (named_is n)).1;
      short = λ none. sym h.named ∙ ap length (sym (none_place none)) ∙ sym count_is;
    }

    pub written_type_names : AreTypeNames es own names
    written_type_names = record {
      long = λ n. (last_place (named_is n)).2 ∙ ap (λ z. z ++ codes "Empty" ∷ []) (sym written_names);
      short = λ none. sym (none_place none) ∙ sym written_names;
    }
