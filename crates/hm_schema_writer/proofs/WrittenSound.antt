-- No line of written nodes is bad.
use Rattle.std.proofs.Common.{◌≡◌, ℕ, ◌<◌, ◌≤◌, true, false, IsTrue, is_some, List, [], ◌∷◌, ◌++◌, length, map, Option, Some, None, IfSome, refl, sym, ap, subst, ◌∙◌, arith, slice_get, take, count_by}
use Rattle.std.specs.Prelude.{codes}
use Rattle.std.specs.List.{Contains}
use Rattle.std.specs.FinMap.{find}
use Rattle.std.proofs.lemmas.List.{length-map}
use Rattle.hm_tree.specs.Names.{Name, name_cmp}
use Rattle.hm_tree.specs.Sets.{ascending}
use Rattle.hm_tree.specs.declared.class.Class.{Class}
use Rattle.hm_schema.specs.declared.node.NodeId.{NodeId}
use Rattle.hm_schema.specs.declared.node.Shape.{Shape}
use Rattle.hm_schema.specs.Values.{NodeValue}
use Rattle.hm_schema.specs.WellFormed.{IsWellFormedShape}
use Rattle.hm_schema_lines.specs.NodeLines.{NodeLineValue, ShapeValue, node, edge, other, shape, is_inside}
use Rattle.hm_schema_lines.specs.Entries.{EntryValue, says}
use Rattle.hm_schema_lines.specs.BadLines.{IsBadNodeLine, Says, Lists, SpeaksOfOthers, IsNoneCounted, HasDouble, named, names_of_shape, begins_node, is_shape, nodes_before, behind, earlier, around, in_no_node, declared_twice, declares_empty, names_no_node, listed_twice, others_twice, unlisted_name, name_twice, least_above_most, no_others_to_count, no_shape, too_many_nodes, too_many_shapes}
use Rattle.hm_schema_lines.specs.FirstBad.{HasNoBad}
use Rattle.hm_schema_writer.specs.WrittenNodes.{name_at, shape_line, inner_lines, IsWritableNode, IsWritable, AreOfNodes}
use Rattle.hm_schema_lines.proofs.Laws.{at_place, counted_below, found_from, more_before}
use Rattle.hm_schema_writer.proofs.WrittenCuts.{IsInner, an_edge, an_other, a_shape, inner_is, edge_in, other_in, shape_in}
use Rattle.hm_schema_writer.proofs.Lists.{all_at, in_take}
use Rattle.hm_schema_writer.proofs.SortedEntries.{one_place}
use Rattle.hm_schema_writer.proofs.WrittenLines.{IsBegun, IsInNode, begun, in_node, line_behind, contains_behind, around_it, earlier_it, earlier_line, writable, is_node, child_there, other_there}
use Rattle.hm_schema_writer.proofs.WrittenShapes.{shape_count, shapes_behind, names_once, in_shape}

pub named_inside : (x : NodeLineValue) (w : Name) → named x ≡ Some w → is_inside x ≡ true
named_inside (node v) w is = let f : ⊥ = cc in absurd f
named_inside (edge k v) w is = refl
named_inside (other c v) w is = refl
named_inside (shape s) w is = let f : ⊥ = cc in absurd f

edge_key : (k v l w : Name) → edge k v ≡ edge l w → k ≡ l
edge_key k v l w e = cc

shape_parts : (s t : ShapeValue) → shape s ≡ shape t → s ≡ t
shape_parts s t e = cc

module _ (names : List Name) (nodes : List NodeValue) (h : IsWritable names nodes) (es : List EntryValue) (a : AreOfNodes names nodes es) where
  inner_of : (i : ℕ) (x : NodeLineValue) (s : IsInNode names nodes h es a i x) → IsInner names s.value s.inner x
  inner_of i x s = inner_is names s.value s.inner x s.line

  in_some_node : (i : ℕ) (x : NodeLineValue) → IsInNode names nodes h es a i x → ¬ (nodes_before es i ≡ 0)
  in_some_node i x s none =
      let less = more_before begins_node es s.start i (says (node s.name)) s.cut.at refl (omega (arith, s.place)) in
      omega (arith, less, none)

  once : (i j : ℕ) (w : Name) → Says es i (node w) → Says es j (node w) → ¬ (i < j)
  once i j w at_i at_j below =
      let b = begun names nodes h es a i w at_i in
      let c = begun names nodes h es a j w at_j in
      let same = h.once b.order c.order w b.named c.named in
      let less = more_before begins_node es i j (says (node w)) at_i refl below in
      omega (arith, less, same, b.cut.before, c.cut.before)

  -- a name that a line names is one of the names
  pub name_place : (i : ℕ) (x : NodeLineValue) (w : Name) → Says es i x → named x ≡ Some w → (p : ℕ) × (slice_get names p ≡ Some w)
  name_place i x w is name = by (in_node names nodes h es a i x is (named_inside x w name))
    where
      by : IsInNode names nodes h es a i x → (p : ℕ) × (slice_get names p ≡ Some w)
      by s = go (inner_of i x s)
        where
          f : IsWritableNode (length nodes) s.value
          f = writable names nodes h es a s.order s.value s.is

          go : IsInner names s.value s.inner x → (p : ℕ) × (slice_get names p ≡ Some w)
          go (an_edge child at same) =
              (child.1.place, child_there names nodes h es a s.value f s.inner child at ∙ ap named same ∙ name)
          go (an_other o at place same) = (o.1.place, other_there names nodes h es a s.value f o at ∙ ap named same ∙ name)
          go (a_shape t q at same) = let no : None ≡ Some w = ap named same ∙ name in let g : ⊥ = cc in absurd g

  edge_once : (i : ℕ) (k w v : Name) → IsInNode names nodes h es a i (edge k w) → ¬ (Contains (earlier es i) (says (edge k v)))
  edge_once i k w v s c =
      let e = earlier_line names nodes h es a i (edge k w) (edge k v) s c in
      go e.0 e.1 (inner_is names s.value e.0 (edge k v) e.2) (inner_of i (edge k w) s)
    where
      f : IsWritableNode (length nodes) s.value
      f = writable names nodes h es a s.order s.value s.is

      go : (m : ℕ) → m < s.inner → IsInner names s.value m (edge k v) → IsInner names s.value s.inner (edge k w) → ⊥
      go m below (an_edge one at same) (an_edge two there also) =
          let place = one_place s.value.children f.formed.ascending m s.inner one two at there
          (edge_key one.0 (name_at names one.1) k v same ∙ sym (edge_key two.0 (name_at names two.1) k w also)) in
          omega (arith, below, place)
      go m below (an_edge one at same) (an_other o there place also) = let g : ⊥ = cc in g
      go m below (an_edge one at same) (a_shape t q there also) = let g : ⊥ = cc in g
      go m below (an_other o at place same) second = let g : ⊥ = cc in g
      go m below (a_shape t q at same) second = let g : ⊥ = cc in g

  other_once : (i : ℕ) (c : Class) (w : Name) (d : Class) (v : Name) → IsInNode names nodes h es a i (other c w)
      → ¬ (Contains (earlier es i) (says (other d v)))
  other_once i c w d v s there =
      let e = earlier_line names nodes h es a i (other c w) (other d v) s there in
      go e.0 e.1 (inner_is names s.value e.0 (other d v) e.2) (inner_of i (other c w) s)
    where
      go : (m : ℕ) → m < s.inner → IsInner names s.value m (other d v) → IsInner names s.value s.inner (other c w) → ⊥
      go m below (an_other o at place same) (an_other p is also_place also) = omega (arith, below, place, also_place)
      go m below (an_other o at place same) (an_edge child is also) = let g : ⊥ = cc in g
      go m below (an_other o at place same) (a_shape t q is also) = let g : ⊥ = cc in g
      go m below (an_edge child at same) second = let g : ⊥ = cc in g
      go m below (a_shape t q at same) second = let g : ⊥ = cc in g

  -- ---- shapes

  record IsShapeOf (i : ℕ) (s : ShapeValue) : Type 0 where
    line : IsInNode names nodes h es a i (shape s)
    of : Shape
    is : shape_line of ≡ shape s
    formed : IsWellFormedShape line.value of

  shape_of : (i : ℕ) (s : ShapeValue) → Says es i (shape s) → IsShapeOf i s
  shape_of i s is = by (in_node names nodes h es a i (shape s) is refl)
    where
      by : IsInNode names nodes h es a i (shape s) → IsShapeOf i s
      by l = go (inner_of i (shape s) l)
        where
          f : IsWritableNode (length nodes) l.value
          f = writable names nodes h es a l.order l.value l.is

          go : IsInner names l.value l.inner (shape s) → IsShapeOf i s
          go (an_edge child at same) = let g : ⊥ = cc in absurd g
          go (an_other o at place same) = let g : ⊥ = cc in absurd g
          go (a_shape t q at same) = record {
            line = l;
            of = t;
            is = same;
            formed = all_at (IsWellFormedShape l.value) l.value.shapes f.formed.shapes q t at;
          }

  shape_value_is : (i : ℕ) (s : ShapeValue) (o : IsShapeOf i s)
      → record { required = ascending o.of.required; optional = ascending o.of.optional; count = record { least = o.of.least; most = o.of.most } } ≡ s
  shape_value_is i s o = shape_parts _ s o.is

  is_listed_there : (i : ℕ) (s : ShapeValue) (k : Name) → IsShapeOf i s → Contains (names_of_shape s) k → Lists (around es i) k
  is_listed_there i s k o c = go (find name_cmp k l.value.children) refl
    where
      l : IsInNode names nodes h es a i (shape s)
      l = o.line

      is_there : IsTrue (is_some (find name_cmp k l.value.children))
      is_there = o.formed.listed k (in_shape o.of k (subst (λ (z : ShapeValue). Contains (names_of_shape z) k) (sym (shape_value_is i s o)) c))

      go : (x : Option NodeId) → find name_cmp k l.value.children ≡ x → Lists (around es i) k
      go None none = let g : false ≡ true = sym (ap is_some none) ∙ is_there in let no : ⊥ = cc in absurd no
      go (Some id) found =
          let f = found_from k id l.value.children found in
          let child : Name × NodeId = (k, id) in (
            name_at names id,
            subst (λ z. Contains z (says (edge k (name_at names id)))) (sym (around_it names nodes h es a i (shape s) l))
                (contains_behind names nodes h es a l.start l.name l.value l.order l.cut f.0 (edge k (name_at names id))
                (edge_in names l.value f.0 child f.1)),
          )

  in_order : (i : ℕ) (s : ShapeValue) (most : ℕ) → IsShapeOf i s → s.count.most ≡ Some most → ¬ (most < s.count.least)
  in_order i s most o is less =
      let same = shape_value_is i s o in
      let bound : o.of.most ≡ Some most = ap (λ (z : ShapeValue). z.count.most) same ∙ is in
      let least : o.of.least ≡ s.count.least = ap (λ (z : ShapeValue). z.count.least) same in
      let fits = subst (λ z. IfSome z (λ most. o.of.least ≤ most)) bound o.formed.ordered in
      omega (arith, least, fits, less)

  counts_others : (i : ℕ) (s : ShapeValue) → IsShapeOf i s → ¬ (IsNoneCounted s.count) → SpeaksOfOthers (around es i)
  counts_others i s o some = go l.value.other refl
    where
      l : IsInNode names nodes h es a i (shape s)
      l = o.line

      go : (x : Option (Class × NodeId)) → l.value.other ≡ x → SpeaksOfOthers (around es i)
      go None none =
          let n = o.formed.none none in
          let same = shape_value_is i s o in
          absurd (some (
            sym (ap (λ (z : ShapeValue). z.count.least) same) ∙ n.0,
            sym (ap (λ (z : ShapeValue). z.count.most) same) ∙ n.1,
          ))
      go (Some p) is = (
        p.0,
        name_at names p.1,
        subst (λ z. Contains z (says (other p.0 (name_at names p.1)))) (sym (around_it names nodes h es a i (shape s) l))
            (contains_behind names nodes h es a l.start l.name l.value l.order l.cut _ (other p.0 (name_at names p.1)) (other_in names l.value p is)),
      )

  few_shapes : (i : ℕ) (s : ShapeValue) → IsInNode names nodes h es a i (shape s) → ¬ (256 ≤ count_by is_shape (earlier es i))
  few_shapes i s l many =
      let f = writable names nodes h es a l.order l.value l.is in
      let at = line_behind names nodes h es a l.start l.name l.value l.order l.cut l.inner (shape s) l.line in
      let less = counted_below is_shape (behind es l.start) l.inner (says (shape s)) at refl in
      let before = ap (count_by is_shape) (earlier_it names nodes h es a i (shape s) l) in
      let all = ap (count_by is_shape) l.cut.behind_is ∙ shape_count (map says (inner_lines names l.value) ++ l.cut.tail) in
      let long = sym (length-map _ _) ∙ ap length (shapes_behind names l.value l.cut.tail l.cut.nothing) in
      let few = f.few_shapes in
      omega (arith, less, before, all, long, few, many)

  some_shape : (i : ℕ) (w : Name) → IsBegun names nodes h es a i w → (s : ShapeValue) × Contains (behind es i) (says (shape s))
  some_shape i w b = go b.value.shapes refl f.formed.some_shape
    where
      f : IsWritableNode (length nodes) b.value
      f = writable names nodes h es a b.order b.value b.is

      go : (ss : List Shape) → b.value.shapes ≡ ss → 0 < length ss → (s : ShapeValue) × Contains (behind es i) (says (shape s))
      go [] is some = absurd (omega (arith, some))
      go (t ∷ ss) is some = (
        record { required = ascending t.required; optional = ascending t.optional; count = record { least = t.least; most = t.most } },
        contains_behind names nodes h es a i w b.value b.order b.cut _ (shape_line t)
            (shape_in names b.value 0 t (ap (λ (z : List Shape). slice_get z 0) is)),
      )

  -- ---- all lines

  pub written_sound : HasNoBad (IsBadNodeLine es)
  written_sound i (in_no_node {x} is inside none) = in_some_node i x (in_node names nodes h es a i x is inside) none
  written_sound i (declared_twice {w} is before) =
      let p = at_place (take i es) (says (node w)) before in
      let t = in_take es i p.0 (says (node w)) p.1 in
      once p.0 i w t.1 is t.0
  written_sound i (declares_empty is) = let b = begun names nodes h es a i (codes "Empty") is in b.differs refl
  written_sound i (names_no_node {x} {w} is name none) =
      let p = name_place i x w is name in none (is_node names nodes h es a p.0 w p.1)
  written_sound i (listed_twice {k} {w} is lists) = edge_once i k w lists.0 (in_node names nodes h es a i (edge k w) is refl) lists.1
  written_sound i (others_twice {c} {w} is speaks) =
      other_once i c w speaks.0 speaks.1 (in_node names nodes h es a i (other c w) is refl) speaks.2
  written_sound i (unlisted_name {s} {k} is there none) = none (is_listed_there i s k (shape_of i s is) there)
  written_sound i (name_twice {s} is d) =
      let o = shape_of i s is in
      names_once o.line.value o.of o.formed (subst (λ (z : ShapeValue). HasDouble (names_of_shape z)) (sym (shape_value_is i s o)) d)
  written_sound i (least_above_most {s} {most} is bound less) = in_order i s most (shape_of i s is) bound less
  written_sound i (no_others_to_count {s} is some none) = none (counts_others i s (shape_of i s is) some)
  written_sound i (no_shape {w} is none) = none (some_shape i w (begun names nodes h es a i w is))
  written_sound i (too_many_nodes {w} is many) =
      let b = begun names nodes h es a i w is in
      let few = h.few b.order w b.named b.differs in
      omega (arith, few, b.cut.before, many)
  written_sound i (too_many_shapes {s} is many) = few_shapes i s (in_node names nodes h es a i (shape s) is refl) many
