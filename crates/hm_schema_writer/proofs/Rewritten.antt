-- Nodes that were read and are written again: the file that they are written to describes the same nodes with the same names.
use Rattle.std.proofs.Common.{◌≡◌, ◌⊎◌, inl, inr, ℕ, zero, suc, ◌+◌, ◌<◌, Bool, true, false, cond, List, [], ◌∷◌, ◌++◌, get_or, Some, None, refl, sym, ap, subst, ◌∙◌, arith, slice_get, take, count_by, filter_map}
use Rattle.std.specs.Prelude.{codes}
use Rattle.std.specs.List.{Contains}
use Rattle.std.proofs.lemmas.Option.{same_Some, slice_get-get_or, get_or_from_slice_get}
use Rattle.hm_tree.specs.Names.{Name}
use Rattle.hm_tree.specs.declared.class.Class.{Class}
use Rattle.hm_schema.specs.declared.node.NodeId.{NodeId}
use Rattle.hm_schema.specs.Values.{NodeValue}
use Rattle.hm_schema_lines.specs.NodeLines.{NodeLineValue, node, edge, other, shape}
use Rattle.hm_schema_lines.specs.Entries.{EntryValue, skipped, unknown, says}
use Rattle.hm_schema_lines.specs.BadLines.{IsBadNodeLine, Says, named, begins_node, nodes_before, up_to_node, behind, in_no_node}
use Rattle.hm_schema_lines.specs.FirstBad.{HasNoBad}
use Rattle.hm_schema_lines.specs.Firsts.{node_names}
use Rattle.hm_schema_lines.specs.Nodes.{IsPlaceOf, empty, AreNodesOf, named_by, NamesEmpty, AreTypeNames}
use Rattle.hm_schema_writer.specs.WrittenNodes.{name_at, inner_lines, IsWritable, AreOfNodes}
use Rattle.hm_schema_lines.proofs.Laws.{at_place, brings, brought, count_cons, counted_below, found_from, from_place, get_middle, in_file, length_names, names_empty_or, node_line}
use Rattle.hm_schema_writer.proofs.DeclaredNames.{at_declared}
use Rattle.hm_schema_writer.proofs.WrittenCuts.{edge_in, other_in, cuts}
use Rattle.hm_schema_writer.proofs.WrittenLines.{empty_last, line_behind}
use Rattle.hm_schema_writer.proofs.WrittenSound.{named_inside}
use Rattle.hm_schema_writer.proofs.Described.{written_nodes, written_type_names}
use Rattle.hm_schema_writer.proofs.Readable.{AreRead, readable_nodes, no_declared_empty}

-- ---- a line inside a node is behind the node line

abbrev IsBehindOne : List EntryValue → EntryValue → Type 0
IsBehindOne es e = (j : ℕ) × (w : Name) × (m : ℕ) × Says es j (node w) × (slice_get (behind es j) m ≡ Some e)

behind_one : (es : List EntryValue) (i : ℕ) (e : EntryValue) → slice_get es i ≡ Some e → begins_node e ≡ false
    → (slice_get (up_to_node es) i ≡ Some e) ⊎ IsBehindOne es e
behind_one [] i e is told = let f : ⊥ = cc in absurd f
behind_one (d ∷ es) zero e is told =
    inl (ap (λ b. slice_get (cond b [] (d ∷ up_to_node es)) 0) (ap begins_node (same_Some d e is) ∙ told) ∙ is)
behind_one (d ∷ es) (suc i) e is told = go (begins_node d) refl (behind_one es i e is told)
  where
    go : (b : Bool) → begins_node d ≡ b → (slice_get (up_to_node es) i ≡ Some e) ⊎ IsBehindOne es e
        → (slice_get (up_to_node (d ∷ es)) (suc i) ≡ Some e) ⊎ IsBehindOne (d ∷ es) e
    go b begins (inr f) = inr (suc f.0, f.1, f.2, f.3, f.4)
    go true begins (inl at) = let l = node_line (d ∷ es) 0 d refl begins in inr (0, l.0, i, l.1, at)
    go false begins (inl at) = inl (ap (λ b. slice_get (cond b [] (d ∷ up_to_node es)) (suc i)) begins ∙ at)

-- before all nodes
none_before : (es : List EntryValue) (i : ℕ) (e : EntryValue) → slice_get (up_to_node es) i ≡ Some e → nodes_before es i ≡ 0
none_before [] i e is = let f : ⊥ = cc in absurd f
none_before (d ∷ es) zero e is = refl
none_before (d ∷ es) (suc i) e is = go (begins_node d) refl (none_before es i e)
  where
    go : (b : Bool) → begins_node d ≡ b → (slice_get (up_to_node es) i ≡ Some e → nodes_before es i ≡ 0) → nodes_before (d ∷ es) (suc i) ≡ 0
    go true begins more =
        let none : None ≡ Some e = sym (ap (λ b. slice_get (cond b [] (d ∷ up_to_node es)) (suc i)) begins) ∙ is in
        let f : ⊥ = cc in absurd f
    go false begins more =
        let at = sym (ap (λ b. slice_get (cond b [] (d ∷ up_to_node es)) (suc i)) begins) ∙ is in
        let rest = more at in
        let c = count_cons begins_node d (take i es) false begins in
        omega (arith, c, rest)

module _ (es : List EntryValue) (sound : HasNoBad (IsBadNodeLine es)) (read : AreRead es) (own names : List Name) (nodes : List NodeValue)
    (t : AreNodesOf es own nodes) (n : AreTypeNames es own names) (new : List EntryValue) (a : AreOfNodes names nodes new) where
  writable : IsWritable names nodes
  writable = readable_nodes es sound read own names nodes t n

  name_last : NamesEmpty es own → slice_get names (count_by begins_node es) ≡ Some (codes "Empty")
  name_last it =
      ap (λ z. slice_get z (count_by begins_node es)) (n.long it)
      ∙ ap (slice_get (node_names es ++ codes "Empty" ∷ [])) (sym (length_names es))
      ∙ get_middle (node_names es) [] (codes "Empty")

  -- the lines of a node are in the file that it is written to
  line_written : NamesEmpty es own → (k : ℕ) (m : NodeValue) → slice_get nodes k ≡ Some m → k < count_by begins_node es → (p : ℕ) (y : NodeLineValue)
      → slice_get (inner_lines names m) p ≡ Some y → Contains new (says y)
  line_written it k m is below p y at =
      let long = t.long it in
      let named_by_names = writable.named in
      let name = get_or names k [] in
      let name_is : slice_get names k ≡ Some name = slice_get-get_or names k [] (omega (arith, below, long, named_by_names)) in
      let c = cuts names nodes new a k name m (at_declared names (empty_last names nodes writable new a) k name name_is (differs name name_is)) is in
      let f = in_file new c.0 name c.1.at p (says y) (line_behind names nodes writable new a c.0 name m k c.1 p y at) in
      from_place new (says y) (suc c.0 + p, f.at)
    where
      differs : (w : Name) → slice_get names k ≡ Some w → ¬ (w ≡ codes "Empty")
      differs w w_is same =
          let l = (writable.last k (w_is ∙ ap Some same)).0 in
          let long = t.long it in
          let named_by_names = writable.named in
          omega (arith, l, long, named_by_names, below)

  last_name : NamesEmpty es own → name_at names (record { place = count_by begins_node es }) ≡ codes "Empty"
  last_name it = get_or_from_slice_get names (count_by begins_node es) (codes "Empty") [] (name_last it)

  line_kept : NamesEmpty es own → (j : ℕ) (w : Name) → Says es j (node w) → (x : NodeLineValue) → Contains (behind es j) (says x)
      → named x ≡ Some (codes "Empty") → Contains (filter_map named_by new) (codes "Empty")
  line_kept it j w at (node v) c name = let f : ⊥ = cc in absurd f
  line_kept it j w at (shape s) c name = let f : ⊥ = cc in absurd f
  line_kept it j w at (edge q v) c name =
      let l = t.lines j w at in
      let id : NodeId = record { place = count_by begins_node es } in
      let v_is : v ≡ codes "Empty" = same_Some v (codes "Empty") name in
      let found = (l.2.children q id).1 (v, c, subst (λ (u : Name). IsPlaceOf es u (count_by begins_node es)) (sym v_is) empty) in
      let f = found_from q id l.0.children found in
      let child : Name × NodeId = (q, id) in
      let there = line_written it (nodes_before es j) l.0 l.1 (counted_below begins_node es j (says (node w)) at refl) f.0 (edge q (name_at names id))
      (edge_in names l.0 f.0 child f.1) in
      brought named_by new (says (edge q (name_at names id))) (codes "Empty") (ap Some (last_name it)) there
  line_kept it j w at (other d v) c name =
      let l = t.lines j w at in
      let id : NodeId = record { place = count_by begins_node es } in
      let v_is : v ≡ codes "Empty" = same_Some v (codes "Empty") name in
      let o : Class × NodeId = (d, id) in
      let is = (l.2.other d id).1 (v, c, subst (λ (u : Name). IsPlaceOf es u (count_by begins_node es)) (sym v_is) empty) in
      let there = line_written it (nodes_before es j) l.0 l.1 (counted_below begins_node es j (says (node w)) at refl) _ (other d (name_at names id))
      (other_in names l.0 o is) in
      brought named_by new (says (other d (name_at names id))) (codes "Empty") (ap Some (last_name it)) there

  entry_kept : NamesEmpty es own → (e : EntryValue) (i : ℕ) → slice_get es i ≡ Some e → named_by e ≡ Some (codes "Empty")
      → Contains (filter_map named_by new) (codes "Empty")
  entry_kept it skipped i is name = let f : ⊥ = cc in absurd f
  entry_kept it unknown i is name = let f : ⊥ = cc in absurd f
  entry_kept it (says x) i is name = by (behind_one es i (says x) is (inside_line x (codes "Empty") name))
    where
      inside_line : (x : NodeLineValue) (w : Name) → named x ≡ Some w → begins_node (says x) ≡ false
      inside_line (node v) w name = let f : ⊥ = cc in absurd f
      inside_line (edge k v) w name = refl
      inside_line (other c v) w name = refl
      inside_line (shape s) w name = refl

      by : (slice_get (up_to_node es) i ≡ Some (says x)) ⊎ IsBehindOne es (says x) → Contains (filter_map named_by new) (codes "Empty")
      by (inl first) = absurd (sound i (in_no_node is (named_inside x (codes "Empty") name) (none_before es i (says x) first)))
      by (inr f) = line_kept it f.0 f.1 f.3 x (from_place (behind es f.0) (says x) (f.2, f.4)) name

  kept : NamesEmpty es own → NamesEmpty new own
  kept (inr there) = inr there
  kept (inl line) =
      let b = brings named_by es (codes "Empty") line in
      let p = at_place es b.0 b.1 in
      inl (entry_kept (inl line) b.0 p.0 p.1 b.2)

  is_named : Contains names (codes "Empty") → NamesEmpty new own
  is_named c = go (names_empty_or es own)
    where
      go : NamesEmpty es own ⊎ (NamesEmpty es own → ⊥) → NamesEmpty new own
      go (inl it) = kept it
      go (inr not_it) = let p = at_place names (codes "Empty") c in absurd (no_declared_empty es sound read own names nodes t n not_it p.0 p.1)

  is_name : Contains own (codes "Empty") → Contains names (codes "Empty")
  is_name there = from_place names (codes "Empty") (count_by begins_node es, name_last (inr there))

  pub rewritten_nodes : AreNodesOf new own nodes
  rewritten_nodes = written_nodes names nodes writable new a own is_named is_name

  pub rewritten_type_names : AreTypeNames new own names
  rewritten_type_names = written_type_names names nodes writable new a own is_named is_name
