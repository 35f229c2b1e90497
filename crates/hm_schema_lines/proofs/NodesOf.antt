-- The nodes that are built are those of the file.
use Rattle.std.proofs.Common.{◌≡◌, inl, inr, ℕ, suc, ◌+◌, ◌<◌, Bool, true, false, List, [], ◌∷◌, ◌++◌, length, get_or, Option, Some, None, refl, sym, ap, subst, ◌∙◌, arith, ◌-◌, add-one, slice_get, take, drop, filter_map, count_by}
use Rattle.std.proofs.lemmas.Grind.{common_steps}
use Rattle.std.proofs.lemmas.Option.{gets, same_Some, slice_get_within, get_or_from_slice_get}
use Rattle.std.specs.Prelude.{codes, MatchBool, ◌↔◌, IsTrue}
use Rattle.std.specs.List.{Contains, IsDistinct, HoldsAt, AllWithin}
use Rattle.std.specs.FinMap.{find}
use Rattle.std.proofs.lemmas.Bool.{true≢false, cases_lt}
use Rattle.std.proofs.lemmas.Cmp.{eq_by_cmp_equiv}
use Rattle.std.proofs.lemmas.List.{take_all, take_rest, drop-map, length_push, length-map, get_or-map}
use Rattle.std.proofs.lemmas.List.Sums.{count_by_more_yes, count_by_more_no}
use Rattle.std.proofs.lemmas.List.Sorted.{IsPermutation-sym, IsPermutation-map, Contains-permutation}
use Rattle.std.proofs.lemmas.Map.Keys.{IsDistinct-IsPermutation}
use Rattle.hm_tree.specs.Names.{Name, name_cmp}
use Rattle.hm_tree.specs.declared.class.Class.{Class}
use Rattle.hm_tree.proofs.Sorted.{name_total}
use Rattle.hm_tree.proofs.NameSets.{tied}
use Rattle.hm_schema.specs.declared.node.NodeId.{NodeId}
use Rattle.hm_schema.specs.Values.{NodeValue}
use Rattle.hm_schema_lines.specs.declared.entry.Entry.{Entry}
use Rattle.hm_schema_lines.specs.declared.entry.Entry.TheVariants.{Skipped}
use Rattle.hm_schema_lines.specs.NodeLines.{NodeLineValue, node, edge, other}
use Rattle.hm_schema_lines.specs.Entries.{EntryValue, says, entry_value, entry_values}
use Rattle.hm_schema_lines.specs.BadLines.{IsBadNodeLine, Says, named, behind, up_to_node, begins_node, nodes_before, listed_twice, others_twice}
use Rattle.hm_schema_lines.specs.Nodes.{IsPlaceOf, IsNodeOf, AreNodesOf, named_by, NamesEmpty, empty_node}
use Rattle.hm_schema_lines.specs.Building.{child_of, IsOtherOf, IsBuilt, AreBuilt}
use Rattle.hm_schema_lines.proofs.Declared.{before_it, place_once}
use Rattle.hm_schema_lines.proofs.Sections.{in_file}
use Rattle.hm_schema_lines.proofs.Made.{brought, brings, at_place, from_place, made_from, made_at}
use Rattle.hm_schema_lines.proofs.Building.{is_child, shapes_are, keys, rising, found, found_from, distinct}
use Rattle.hm_schema_lines.specs.FirstBad.{HasNoBad}

-- the names that are named have their places
abbrev pub ArePlaced : List EntryValue → (Name → NodeId) → Type 0
ArePlaced es id = (j : ℕ) (x : NodeLineValue) (v : Name) → Says es j x → named x ≡ Some v → IsPlaceOf es v (id v).place

-- ---- one node

module _ (es : List EntryValue) (none : HasNoBad (IsBadNodeLine es)) (i : ℕ) (w : Name) (is : Says es i (node w)) where
  listed_once : (k v u : Name) (m n : ℕ) → Says (behind es i) m (edge k v) → Says (behind es i) n (edge k u) → ¬ (m < n)
  listed_once k v u m n h l below =
      let f = in_file es i w is n (says (edge k u)) l in
      none (suc i + n) (listed_twice f.at (
        v,
        subst (λ z. Contains z (says (edge k v))) (sym f.earlier_are)
            (before_it (behind es i) m n (says (edge k v)) h below),
      ))

  others_once : (c d : Class) (v u : Name) (m n : ℕ) → Says (behind es i) m (other c v) → Says (behind es i) n (other d u) → ¬ (m < n)
  others_once c d v u m n h l below =
      let f = in_file es i w is n (says (other d u)) l in
      none (suc i + n) (others_twice f.at (
        c,
        v,
        subst (λ z. Contains z (says (other c v))) (sym f.earlier_are)
            (before_it (behind es i) m n (says (other c v)) h below),
      ))

  module _ (id : Name → NodeId) (placed : ArePlaced es id) where
    has_place : (m : ℕ) (x : NodeLineValue) (v : Name) → Says (behind es i) m x → named x ≡ Some v → IsPlaceOf es v (id v).place
    has_place m x v said name = let f = in_file es i w is m (says x) said in placed (suc i + m) x v f.at name

    same_id : (m : ℕ) (x : NodeLineValue) (v : Name) (n : NodeId) → Says (behind es i) m x → named x ≡ Some v → IsPlaceOf es v n.place → n ≡ id v
    same_id m x v n said name place = ap (λ p. record { place = p }) (place_once es none v n.place (id v).place place (has_place m x v said name))

    module _ (n : NodeValue) (b : IsBuilt id (behind es i) n) where
      once : IsDistinct tied (keys n.children)
      once =
          let made = filter_map (child_of id) (behind es i) in
          IsDistinct-IsPermutation tied ((eq_by_cmp_equiv name_total).symm) (keys made) (keys n.children)
          (IsPermutation-map (λ e. e.0) made n.children b.children) (distinct id (behind es i) listed_once)

      child_from : (k : Name) (c : NodeId) → find name_cmp k n.children ≡ Some c
          → (v : Name) × Contains (behind es i) (says (edge k v)) × IsPlaceOf es v c.place
      child_from k c f =
          let made = filter_map (child_of id) (behind es i) in
          let there = from_place n.children (k, c) (found_from k c n.children f) in
          let back = at_place made (k, c) (Contains-permutation n.children made (k, c) (IsPermutation-sym made n.children b.children) there) in
          let m = made_from (child_of id) (behind es i) (k, c) back in
          let l = is_child id m.entry k c m.made in
          let said : Says (behind es i) m.line (edge k l.0) = m.is ∙ ap Some l.1 in (
            l.0,
            from_place (behind es i) (says (edge k l.0)) (m.line, said),
            subst (λ (z : NodeId). IsPlaceOf es l.0 z.place) (sym l.2) (has_place m.line (edge k l.0) l.0 said refl),
          )

      child_to : (k : Name) (c : NodeId) (v : Name) → Contains (behind es i) (says (edge k v)) → IsPlaceOf es v c.place
          → find name_cmp k n.children ≡ Some c
      child_to k c v h place =
          let made = filter_map (child_of id) (behind es i) in
          let a = at_place (behind es i) (says (edge k v)) h in
          let same = same_id a.0 (edge k v) v c a.1 refl place in
          let m = made_at (child_of id) (behind es i) (k, c) a.0 (says (edge k v)) a.1 (ap (λ (z : NodeId). Some (k, z)) (sym same)) in
          let there = at_place n.children (k, c) (Contains-permutation made n.children (k, c) b.children (from_place made (k, c) m)) in
          found k c n.children once there.0 there.1

      other_from : (c : Class) (d : NodeId) → n.other ≡ Some (c, d) → (v : Name) × Contains (behind es i) (says (other c v)) × IsPlaceOf es v d.place
      other_from c d f =
          let o = subst (IsOtherOf id (behind es i)) f b.other in
          let a = at_place (behind es i) (says (other c o.0)) o.1 in
          (o.0, o.1, subst (λ (z : NodeId). IsPlaceOf es o.0 z.place) (sym o.2) (has_place a.0 (other c o.0) o.0 a.1 refl))

      other_to : (c : Class) (d : NodeId) (v : Name) → Contains (behind es i) (says (other c v)) → IsPlaceOf es v d.place → n.other ≡ Some (c, d)
      other_to c d v h place = go n.other refl b.other
        where
          go : (o : Option (Class × NodeId)) → n.other ≡ o → IsOtherOf id (behind es i) o → n.other ≡ Some (c, d)
          go None is none = absurd (none (c, v, h))
          go (Some o) is said =
              let a = at_place (behind es i) (says (other c v)) h in
              let m = at_place (behind es i) (says (other o.0 said.0)) said.1 in
              let line : m.0 ≡ a.0 = omega (arith, others_once c o.0 v said.0 a.0 m.0 a.1 m.1, others_once o.0 c said.0 v m.0 a.0 m.1 a.1) in
              let both : Some (says (other o.0 said.0)) ≡ Some (says (other c v)) = sym m.1 ∙ ap (slice_get (behind es i)) line ∙ a.1 in
              let class : o.0 ≡ c = cc in
              let name : said.0 ≡ v = cc in
              let place_is : o.1 ≡ d = said.2 ∙ ap id name ∙ sym (same_id a.0 (other c v) v d a.1 refl place) in
              let same : o ≡ (c, d) = λ i. (class i, place_is i) in
              is ∙ ap Some same

      pub is_node : IsNodeOf es (behind es i) n
      is_node = record {
        shapes = b.shapes ∙ shapes_are (behind es i);
        ascending = rising n.children b.ascending once;
        children = λ k c. (child_from k c, λ h. child_to k c h.0 h.1 h.2);
        other = λ c d. (other_from c d, λ h. other_to c d h.0 h.1 h.2);
        twins = b.twins;
      }

-- ---- one node after another

module _ {X : Type 0} (y : X) where
  kept : (xs : List X) (p : ℕ) (x : X) → slice_get xs p ≡ Some x → slice_get (xs ++ y ∷ []) p ≡ Some x
  kept xs p x is = grind (arith, common_steps, gets)

  last : (xs : List X) → slice_get (xs ++ y ∷ []) (length xs) ≡ Some y
  last xs = grind (arith, common_steps, gets)

module _ (id : Name → NodeId) (es : List EntryValue) (ns : List NodeValue) (place : ℕ) (e : EntryValue) (is : slice_get es place ≡ Some e)
    (b : AreBuilt id es place ns) where
  read : (p : Bool) → begins_node e ≡ p → begins_node (get_or es place e) ≡ p
  read p told = ap begins_node (get_or_from_slice_get es place e e is) ∙ told

  within : place < length es
  within = slice_get_within es place e is

  pub next_line : begins_node e ≡ false → AreBuilt id es (place + 1) ns
  next_line told = record {
    lines = λ j v below said. elim (cases_lt j place) [
      | inl h ↦ b.lines j v h said
      | inr h ↦
          let here : j ≡ place = omega arith in
          let same = same_Some e (says (node v)) (sym is ∙ ap (slice_get es) (sym here) ∙ said) in
          absurd (true≢false (sym (ap begins_node same) ∙ told))
    ];
    long = b.long ∙ sym (count_by_more_no begins_node es place e within (read false told));
  }

  pub next_node : begins_node e ≡ true → (n : NodeValue) → IsBuilt id (behind es place) n → AreBuilt id es (place + 1) (ns ++ n ∷ [])
  next_node told n built = record {
    lines = λ j v below said. elim (cases_lt j place) [
      | inl h ↦ (let l = b.lines j v h said in (l.0, kept n ns (nodes_before es j) l.0 l.1, l.2))
      | inr h ↦
          let here : j ≡ place = omega arith in (
            n,
            ap (λ p. slice_get (ns ++ n ∷ []) (nodes_before es p)) here ∙ ap (slice_get (ns ++ n ∷ [])) (sym b.long) ∙ last n ns,
            subst (λ p. IsBuilt id (behind es p) n) (sym here) built,
          )
    ];
    long = length_push ns n ∙ ap (λ m. m + 1) b.long ∙ sym (count_by_more_yes begins_node es place e within (read true told));
  }

pub behind_is : (xs : List Entry) (i : ℕ) → up_to_node (entry_values (take (length xs - (i + 1)) (drop (i + 1) xs))) ≡ behind (entry_values xs) i
behind_is xs i =
    ap (λ (z : List Entry). up_to_node (entry_values z)) (take_rest xs (i + 1))
    ∙ ap up_to_node (sym (drop-map entry_value (i + 1) xs))
    ∙ ap (λ n. up_to_node (drop n (entry_values xs))) (add-one i)

-- ---- all nodes

module _ (es : List EntryValue) (none : HasNoBad (IsBadNodeLine es)) (id : Name → NodeId) (placed : ArePlaced es id) (ns : List NodeValue)
    (n : ℕ) (all : n ≡ length es) (b : AreBuilt id es n ns) (own : List Name) where
  long : length ns ≡ count_by begins_node es
  long = b.long ∙ ap (count_by begins_node) (take_all n es (omega arith))

  line_node : (i : ℕ) (w : Name) → Says es i (node w) → (m : NodeValue) × (slice_get ns (nodes_before es i) ≡ Some m) × IsNodeOf es (behind es i) m
  line_node i w is =
      let within = slice_get_within es i (says (node w)) is in
      let l = b.lines i w (omega arith) is in
      (l.0, l.1, is_node es none i w is id placed l.0 l.2)

  pub without_empty : ¬ (NamesEmpty es own) → AreNodesOf es own ns
  without_empty not_named = record {
    lines = line_node;
    empty = λ h. absurd (not_named h);
    long = λ h. absurd (not_named h);
    short = λ h. long;
  }

  pub with_empty : NamesEmpty es own → AreNodesOf es own (ns ++ empty_node ∷ [])
  with_empty is_named = record {
    lines = λ i w is. let l = line_node i w is in (l.0, kept empty_node ns (nodes_before es i) l.0 l.1, l.2);
    empty = λ h. ap (slice_get (ns ++ empty_node ∷ [])) (sym long) ∙ last empty_node ns;
    long = λ h. length_push ns empty_node ∙ ap (λ m. m + 1) long;
    short = λ h. absurd (h is_named);
  }

-- ---- whether `Empty` is named

pub named_by_line : (xs : List Entry) (r : Bool)
    → MatchBool r ((k : ℕ) × (k < length xs) × HoldsAt (λ e. named_by (entry_value e) ≡ Some (codes "Empty")) xs k)
    (AllWithin (λ e. ¬ (named_by (entry_value e) ≡ Some (codes "Empty"))) xs 0 (length xs))
    → IsTrue r ↔ Contains (filter_map named_by (entry_values xs)) (codes "Empty")
named_by_line xs true h =
    let e = entry_value (get_or xs h.0 Skipped) in
    let there : Contains (entry_values xs) e = (h.0, omega (arith, h.1, length-map xs entry_value), get_or-map entry_value xs h.0 Skipped e h.1) in
    (λ _. brought named_by (entry_values xs) e (codes "Empty") (h.2 Skipped) there, λ _. refl)
named_by_line xs false h = (λ r. absurd (true≢false (sym r)), λ c. absurd (none c))
  where
    none : Contains (filter_map named_by (entry_values xs)) (codes "Empty") → ⊥
    none c =
        let f = brings named_by (entry_values xs) (codes "Empty") c in
        let within : f.1.0 < length xs = omega (arith, f.1.1, length-map xs entry_value) in
        h f.1.0 Skipped (omega arith) within (ap named_by (sym (get_or-map entry_value xs f.1.0 Skipped f.0 within) ∙ f.1.2) ∙ f.2)
