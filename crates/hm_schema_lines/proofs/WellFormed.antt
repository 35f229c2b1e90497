-- The nodes of a file without a bad line are well formed.
use Rattle.std.proofs.Common.{◌≡◌, ◌⊎◌, inl, inr, ℕ, zero, suc, ◌+◌, ◌<◌, ◌≤◌, Bool, true, false, IsTrue, is_some, List, [], ◌∷◌, length, Option, Some, None, IfSome, Ok, All, refl, sym, ap, subst, ◌∙◌, arith, slice_get, count_by, get_or, length-append}
use Rattle.std.specs.Prelude.{codes}
use Rattle.std.specs.List.{Contains}
use Rattle.std.specs.FinMap.{find}
use Rattle.std.specs.FinSet.{contains, from_list, contains-from_list}
use Rattle.std.proofs.lemmas.Bool.{or_cases}
use Rattle.std.proofs.lemmas.Cmp.{tied_itself}
use Rattle.std.proofs.lemmas.List.{get_or_default, get_or_append_left, get_or-append-add, length-map}
use Rattle.std.proofs.lemmas.List.Elements.{All-nil, All-cons, All-map, Contains-append_left, Contains-append_right}
use Rattle.std.proofs.lemmas.Map.Views.{Contains-from_any}
use Rattle.std.proofs.lemmas.Option.{slice_get_read, slice_get-get_or}
use Rattle.hm_tree.specs.Names.{Name, name_cmp}
use Rattle.hm_tree.proofs.Sorted.{name_total, searched}
use Rattle.hm_tree.specs.declared.class.Class.{Class}
use Rattle.hm_schema.specs.declared.node.NodeId.{NodeId}
use Rattle.hm_schema.specs.Values.{NodeValue, is_listed}
use Rattle.hm_schema.specs.WellFormed.{IsWellFormedNode, IsWellFormedShape}
use Rattle.hm_schema.proofs.NamesOf.{tie_one}
use Rattle.hm_schema_lines.specs.declared.count.Count.{Count}
use Rattle.hm_schema_lines.specs.NodeLines.{NodeLineValue, ShapeValue, node, edge, other, shape}
use Rattle.hm_schema_lines.specs.Entries.{EntryValue, says}
use Rattle.hm_schema_lines.specs.BadLines.{IsBadNodeLine, Says, named, begins_node, nodes_before, behind, around, IsNode, Lists, SpeaksOfOthers, names_of_shape, HasDouble, IsNoneCounted, names_no_node, unlisted_name, name_twice, least_above_most, no_others_to_count, no_shape}
use Rattle.hm_schema_lines.specs.Nodes.{IsPlaceOf, declared, empty, shapes_in, as_shape, IsNodeOf, AreNodesOf, named_by, NamesEmpty, empty_node}
use Rattle.hm_schema_lines.proofs.Declared.{counted_below, nat_cases, names_empty_or, IsOneOf, of_line, last, one_of}
use Rattle.hm_schema_lines.proofs.Made.{at_place, from_place, brought}
use Rattle.hm_schema_lines.proofs.Sections.{in_file}
use Rattle.hm_schema_lines.specs.FirstBad.{HasNoBad}

-- ---- shapes

-- what holds of each shape that a line says holds of the shapes of the lines
pub all_shapes : (P : ShapeValue → Type 0) (lines : List EntryValue) → ((s : ShapeValue) → Contains lines (says (shape s)) → P s)
    → All P (shapes_in lines)
all_shapes P [] f = All-nil P
all_shapes P (says (shape s) ∷ lines) f = All-cons P s (shapes_in lines) (f s (0, omega arith, refl))
    (all_shapes P lines (λ t c. f t (suc c.0, omega (arith, c.1), c.2)))
all_shapes P (e ∷ lines) f = all_shapes P lines (λ t c. f t (suc c.0, omega (arith, c.1), c.2))

some_shape_in : (lines : List EntryValue) (k : ℕ) (s : ShapeValue) → slice_get lines k ≡ Some (says (shape s)) → 0 < length (shapes_in lines)
some_shape_in [] k s is = let f : ⊥ = cc in absurd f
some_shape_in (says (shape t) ∷ lines) k s is = omega arith
some_shape_in (e ∷ lines) zero s is = let f : ⊥ = cc in absurd f
some_shape_in (e ∷ lines) (suc k) s is = some_shape_in lines k s is

none_counted_or : (c : Count) → IsNoneCounted c ⊎ (IsNoneCounted c → ⊥)
none_counted_or c = go (nat_cases 0 c.least) c.most refl
  where
    go : (0 < c.least) ⊎ (c.least ≤ 0) → (m : Option ℕ) → c.most ≡ m → IsNoneCounted c ⊎ (IsNoneCounted c → ⊥)
    go (inl h) m e = inr (λ n. let l = n.0 in omega arith)
    go (inr h) None e = inr (λ n. let l = n.1 in let f : ⊥ = cc in f)
    go (inr h) (Some zero) e = inl (omega arith, e)
    go (inr h) (Some (suc m)) e = inr (λ n. let l : Some (suc m) ≡ Some 0 = sym e ∙ n.1 in let same : suc m ≡ 0 = cc in omega arith)

is_in : (ks : List Name) (k : Name) → IsTrue (contains (from_list {R = name_cmp} ks) k) → Contains ks k
is_in ks k h = Contains-from_any tie_one k ks (sym (contains-from_list name_total ks k) ∙ h)

module _ (n : NodeValue) (s : ShapeValue) where
  in_both : (k : Name) → Contains s.required k → Contains s.optional k → HasDouble (names_of_shape s)
  in_both k a b =
      let long = length-append s.required s.optional in
      let le = a.1 in
      let lt = b.1 in
      let first : get_or (names_of_shape s) a.0 k ≡ k = get_or_append_left s.required s.optional k a.0 a.1 ∙ a.2 in
      let second : get_or (names_of_shape s) (length s.required + b.0) k ≡ k = get_or-append-add s.required s.optional b.0 k ∙ b.2 in (
        a.0,
        length s.required + b.0,
        k,
        omega arith,
        slice_get_read (names_of_shape s) _ a.0 k refl (omega arith) (sym first),
        slice_get_read (names_of_shape s) _ (length s.required + b.0) k refl (omega arith) (sym second),
      )

  shape_formed : ((k : Name) → Contains (names_of_shape s) k → IsTrue (is_listed n k)) → ¬ (HasDouble (names_of_shape s))
      → IfSome s.count.most (λ most. s.count.least ≤ most) → (n.other ≡ None → IsNoneCounted s.count) → IsWellFormedShape n (as_shape s)
  shape_formed listed once ordered none =
      record {
        listed = λ k h. listed k (names k (or_cases (contains (as_shape s).required k) (contains (as_shape s).optional k) h));
        apart = λ k h. apart k h (contains (from_list s.optional) k) refl;
        ordered = ordered;
        none = none;
      }
    where
      names : (k : Name) → IsTrue (contains (as_shape s).required k) ⊎ IsTrue (contains (as_shape s).optional k) → Contains (names_of_shape s) k
      names k (inl h) = Contains-append_left s.required s.optional k (is_in s.required k h)
      names k (inr h) = Contains-append_right s.required s.optional k (is_in s.optional k h)

      apart : (k : Name) → IsTrue (contains (as_shape s).required k) → (b : Bool) → contains (as_shape s).optional k ≡ b → b ≡ false
      apart k h true e = absurd (once (in_both k (is_in s.required k h) (is_in s.optional k e)))
      apart k h false e = refl

empty_formed : (count : ℕ) → IsWellFormedNode count empty_node
empty_formed count = record {
  ascending = tt;
  children = All-nil _;
  other = tt;
  shapes = All-cons (IsWellFormedShape empty_node) (as_shape none) [] formed (All-nil _);
  some_shape = omega arith;
  twins = All-nil _;
}
  where
    none : ShapeValue
    none = record { required = []; optional = []; count = record { least = 0; most = Some 0 } }

    formed : IsWellFormedShape empty_node (as_shape none)
    formed = shape_formed empty_node none (λ k c. absurd (omega (arith, c.1))) (λ d. let f = d.4 in let g : ⊥ = cc in g) (omega arith)
        (λ e. (refl, refl))

-- ---- places of nodes

-- a node that may be named has a place
placed : (es : List EntryValue) (w : Name) → IsNode es w → (p : ℕ) × IsPlaceOf es w p
placed es w (inl d) = let l = at_place es (says (node w)) d in (nodes_before es l.0, declared l.0 l.1)
placed es w (inr e) = (count_by begins_node es, subst (λ (w : Name). IsPlaceOf es w (count_by begins_node es)) (sym e) empty)

module _ (es : List EntryValue) (own : List Name) (nodes : List NodeValue) (are : AreNodesOf es own nodes) where
  count_le : count_by begins_node es ≤ length nodes
  count_le = go (names_empty_or es own)
    where
      go : NamesEmpty es own ⊎ (NamesEmpty es own → ⊥) → count_by begins_node es ≤ length nodes
      go (inl it) = let long = are.long it in omega arith
      go (inr not_it) = let short = are.short not_it in omega arith

  -- the place of a node is in range where `Empty` counts as named if it is the one
  in_range : (w : Name) (p : ℕ) → (w ≡ codes "Empty" → NamesEmpty es own) → IsPlaceOf es w p → p < length nodes
  in_range w _ named (declared i h) = let below = counted_below begins_node es i (says (node w)) h refl in omega (arith, count_le)
  in_range _ _ named empty = let long = are.long (named refl) in omega arith

  line_in_range : (j : ℕ) (x : NodeLineValue) (w : Name) (p : ℕ) → Says es j x → named x ≡ Some w → IsPlaceOf es w p → p < length nodes
  line_in_range j x w p is name =
      in_range w p (λ same. inl (brought named_by es (says x) (codes "Empty") (name ∙ ap Some same) (from_place es (says x) (j, is))))

  pub own_in_range : (w : Name) (p : ℕ) → Contains own w → IsPlaceOf es w p → p < length nodes
  own_in_range w p there = in_range w p (λ same. inr (subst (Contains own) same there))

-- ---- the node of a line

module _ (es : List EntryValue) (none : HasNoBad (IsBadNodeLine es)) (i : ℕ) (w : Name) (begun : Says es i (node w)) where
  -- what a line of the node says, at its place in the file
  record IsSaid (x : NodeLineValue) : Type 0 where
    pub place : ℕ
    pub is : Says es place x
    pub around_is : around es place ≡ behind es i

  line : (x : NodeLineValue) → Contains (behind es i) (says x) → IsSaid x
  line x c =
      let m = at_place (behind es i) (says x) c in
      let f = in_file es i w begun m.0 (says x) m.1 in
      record { place = suc i + m.0; is = f.at; around_is = f.around_is }

  module _ (n : NodeValue) (one : IsNodeOf es (behind es i) n) where
    unfound : (k : Name) → find name_cmp k n.children ≡ None → ¬ (Lists (behind es i) k)
    unfound k is (v, c) =
        let l = line (edge k v) c in
        none l.place (names_no_node l.is refl (λ node.
        let p = placed es v node in
        let there = (one.children k (record { place = p.0 })).1 (v, c, p.1) in
        let f : ⊥ = cc in f))

    unspoken : n.other ≡ None → ¬ (SpeaksOfOthers (behind es i))
    unspoken is (class, v, c) =
        let l = line (other class v) c in
        none l.place (names_no_node l.is refl (λ node.
        let p = placed es v node in
        let there = (one.other class (record { place = p.0 })).1 (v, c, p.1) in
        let f : ⊥ = cc in f))

    module _ (s : ShapeValue) (l : IsSaid (shape s)) where
      listed : (k : Name) → Contains (names_of_shape s) k → IsTrue (is_listed n k)
      listed k c = go (find name_cmp k n.children) refl
        where
          go : (x : Option NodeId) → find name_cmp k n.children ≡ x → IsTrue (is_some x)
          go None is = absurd (none l.place (unlisted_name l.is c (λ h. unfound k is (subst (λ lines. Lists lines k) l.around_is h))))
          go (Some id) is = refl

      ordered : IfSome s.count.most (λ most. s.count.least ≤ most)
      ordered = go s.count.most refl
        where
          go : (m : Option ℕ) → s.count.most ≡ m → IfSome m (λ most. s.count.least ≤ most)
          go None is = tt
          go (Some most) is = in_order (nat_cases most s.count.least)
            where
              in_order : (most < s.count.least) ⊎ (s.count.least ≤ most) → s.count.least ≤ most
              in_order (inl h) = absurd (none l.place (least_above_most l.is is h))
              in_order (inr h) = h

      none_counted : n.other ≡ None → IsNoneCounted s.count
      none_counted is = go (none_counted_or s.count)
        where
          go : IsNoneCounted s.count ⊎ (IsNoneCounted s.count → ⊥) → IsNoneCounted s.count
          go (inl h) = h
          go (inr some) = absurd (none l.place (no_others_to_count l.is some (λ h. unspoken is (subst SpeaksOfOthers l.around_is h))))

      one_formed : IsWellFormedShape n (as_shape s)
      one_formed = shape_formed n s listed (λ d. none l.place (name_twice l.is d)) ordered none_counted

    shapes_formed : All (IsWellFormedShape n) n.shapes
    shapes_formed =
        let all = all_shapes (λ s. IsWellFormedShape n (as_shape s)) (behind es i) (λ s c. one_formed s (line (shape s) c)) in
        subst (All (IsWellFormedShape n)) (sym one.shapes) (All-map (IsWellFormedShape n) as_shape (shapes_in (behind es i)) all)

    some_shape : 0 < length n.shapes
    some_shape = go (nat_cases 0 (length (shapes_in (behind es i))))
      where
        go : (0 < length (shapes_in (behind es i))) ⊎ (length (shapes_in (behind es i)) ≤ 0) → 0 < length n.shapes
        go (inl h) = let same = ap length one.shapes ∙ length-map (shapes_in (behind es i)) as_shape in omega arith
        go (inr h) = absurd (none i (no_shape begun (λ has. let m = at_place (behind es i) (says (shape has.0)) has.1 in
            omega (arith, some_shape_in (behind es i) m.0 has.0 m.1))))

    module _ (own : List Name) (nodes : List NodeValue) (are : AreNodesOf es own nodes) where
      child_in_range : (k : Name) (id : NodeId) → find name_cmp k n.children ≡ Some id → id.place < length nodes
      child_in_range k id is =
          let c = (one.children k id).0 is in
          let l = line (edge k c.0) c.1 in
          line_in_range es own nodes are l.place (edge k c.0) c.0 id.place l.is refl c.2

      children_in_range : All (λ c. c.1.place < length nodes) n.children
      children_in_range j d lt =
          let k = (get_or n.children j d).0 in
          let found = (searched k n.children one.ascending (Ok j) lt
          (λ e. ap (λ (x : Name × NodeId). name_cmp x.0 k) (get_or_default n.children j e d lt) ∙ tied_itself name_total k)).found in
          child_in_range k (get_or n.children j d).1 (found.found d)

      other_in_range : IfSome n.other (λ o. o.1.place < length nodes)
      other_in_range = go n.other refl
        where
          go : (o : Option (Class × NodeId)) → n.other ≡ o → IfSome o (λ o. o.1.place < length nodes)
          go None is = tt
          go (Some o) is =
              let c = (one.other o.0 o.1).0 is in
              let l = line (other o.0 c.0) c.1 in
              line_in_range es own nodes are l.place (other o.0 c.0) c.0 o.1.place l.is refl c.2

      node_formed : IsWellFormedNode (length nodes) n
      node_formed = record {
        ascending = one.ascending;
        children = children_in_range;
        other = other_in_range;
        shapes = shapes_formed;
        some_shape = some_shape;
        twins = subst (All (λ t. IsTrue (is_listed n t.0) × IsTrue (is_listed n t.1))) (sym one.twins) (All-nil _);
      }

pub nodes_formed : (es : List EntryValue) (own : List Name) (nodes : List NodeValue) → HasNoBad (IsBadNodeLine es) → AreNodesOf es own nodes
    → All (IsWellFormedNode (length nodes)) nodes
nodes_formed es own nodes none h p d lt = go p (get_or nodes p d) (one_of es own nodes h p (get_or nodes p d) (slice_get-get_or nodes p d lt))
  where
    go : (p : ℕ) (n : NodeValue) → IsOneOf es own p n → IsWellFormedNode (length nodes) n
    go p n (of_line i w begun before one) = node_formed es none i w begun n one own nodes h
    go p n (last it place is) = subst (IsWellFormedNode (length nodes)) (sym is) (empty_formed (length nodes))
