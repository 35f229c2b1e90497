-- The shapes that written lines say.
use Rattle.std.proofs.Common.{◌≡◌, inl, inr, ℕ, suc, ◌<◌, true, false, ◌||◌, IsTrue, List, [], ◌∷◌, ◌++◌, length, map, Option, Some, None, refl, sym, ap, ◌∙◌, arith, slice_get, count_by}
use Rattle.std.specs.List.{Contains}
use Rattle.std.specs.FinSet.{FinSet, from_list, contains}
use Rattle.std.proofs.lemmas.Bool.{true≢false, or_left, or_right}
use Rattle.std.proofs.lemmas.List.{map-append}
use Rattle.std.proofs.lemmas.Option.{slice_get_within}
use Rattle.hm_tree.specs.Names.{Name, name_cmp}
use Rattle.hm_tree.specs.Sets.{ascending}
use Rattle.hm_tree.specs.declared.class.Class.{Class}
use Rattle.hm_tree.proofs.Ascending.{beside, ascending_rises, contains-ascending, set_of-ascending}
use Rattle.hm_schema.specs.declared.node.NodeId.{NodeId}
use Rattle.hm_schema.specs.declared.node.Shape.{Shape}
use Rattle.hm_schema.specs.Values.{NodeValue}
use Rattle.hm_schema.specs.WellFormed.{IsWellFormedShape}
use Rattle.hm_schema_lines.specs.NodeLines.{node, edge, other, shape}
use Rattle.hm_schema_lines.specs.Entries.{EntryValue, skipped, unknown, says}
use Rattle.hm_schema_lines.specs.BadLines.{HasDouble, is_shape}
use Rattle.hm_schema_lines.specs.Nodes.{shapes_in, as_shape}
use Rattle.hm_schema_writer.specs.WrittenNodes.{edge_line, other_lines, shape_line, inner_lines, SaysNothing}
use Rattle.hm_schema_lines.proofs.Laws.{at_place, count_cons}
use mathlib.Core.List.{append-nil}
use Rattle.hm_schema_writer.proofs.Lists.{IsInEither, in_either, map_at}
use Rattle.hm_schema_writer.proofs.SortedEntries.{apart}

-- ---- names of shapes

rise_once : (s : FinSet name_cmp) (i j : ℕ) (k : Name) → slice_get (ascending s) i ≡ Some k → slice_get (ascending s) j ≡ Some k → ¬ (i < j)
rise_once s i j k at_i at_j below =
    apart (beside (ascending s)) (ascending_rises s) i j (k, tt) (k, tt) below
    (map_at (λ k. (k, tt)) (ascending s) i k at_i) (map_at (λ k. (k, tt)) (ascending s) j k at_j) refl

pub names_once : (n : NodeValue) (t : Shape) → IsWellFormedShape n t → ¬ (HasDouble (ascending t.required ++ ascending t.optional))
names_once n t f d = go (in_either (ascending t.required) (ascending t.optional) d.0 d.2 d.4) (in_either (ascending t.required) (ascending t.optional) d.1 d.2 d.5)
  where
    go : IsInEither (ascending t.required) (ascending t.optional) d.0 d.2 → IsInEither (ascending t.required) (ascending t.optional) d.1 d.2 → ⊥
    go (inl a) (inl b) = rise_once t.required d.0 d.1 d.2 a b d.3
    go (inl a) (inr b) =
        true≢false (sym (contains-ascending t.optional b.0 d.2 b.2) ∙ f.apart d.2 (contains-ascending t.required d.0 d.2 a))
    go (inr a) (inl b) =
        let within = slice_get_within (ascending t.required) d.1 d.2 b in
        absurd (omega (arith, a.1, d.3))
    go (inr a) (inr b) = rise_once t.optional a.0 b.0 d.2 a.2 b.2 (omega (arith, a.1, b.1, d.3))

pub in_shape : (t : Shape) (k : Name) → Contains (ascending t.required ++ ascending t.optional) k → IsTrue (contains t.required k || contains t.optional k)
in_shape t k c =
    let a = at_place (ascending t.required ++ ascending t.optional) k c in
    go a.0 (in_either (ascending t.required) (ascending t.optional) a.0 k a.1)
  where
    go : (m : ℕ) → IsInEither (ascending t.required) (ascending t.optional) m k → IsTrue (contains t.required k || contains t.optional k)
    go m (inl at) = or_left (contains t.required k) (contains t.optional k) (contains-ascending t.required m k at)
    go m (inr b) = or_right (contains t.required k) (contains t.optional k) (contains-ascending t.optional b.0 k b.2)

-- ---- the shapes that lines say

shapes_both : (xs ys : List EntryValue) → shapes_in (xs ++ ys) ≡ shapes_in xs ++ shapes_in ys
shapes_both [] ys = refl
shapes_both (says (shape s) ∷ xs) ys = ap (λ z. s ∷ z) (shapes_both xs ys)
shapes_both (says (node w) ∷ xs) ys = shapes_both xs ys
shapes_both (says (edge k w) ∷ xs) ys = shapes_both xs ys
shapes_both (says (other c w) ∷ xs) ys = shapes_both xs ys
shapes_both (skipped ∷ xs) ys = shapes_both xs ys
shapes_both (unknown ∷ xs) ys = shapes_both xs ys

pub shape_count : (xs : List EntryValue) → count_by is_shape xs ≡ length (shapes_in xs)
shape_count [] = refl
shape_count (says (shape s) ∷ xs) = let c = count_cons is_shape (says (shape s)) xs true refl in let r = shape_count xs in omega arith
shape_count (says (node w) ∷ xs) = let c = count_cons is_shape (says (node w)) xs false refl in let r = shape_count xs in omega arith
shape_count (says (edge k w) ∷ xs) = let c = count_cons is_shape (says (edge k w)) xs false refl in let r = shape_count xs in omega arith
shape_count (says (other d w) ∷ xs) = let c = count_cons is_shape (says (other d w)) xs false refl in let r = shape_count xs in omega arith
shape_count (skipped ∷ xs) = let c = count_cons is_shape skipped xs false refl in let r = shape_count xs in omega arith
shape_count (unknown ∷ xs) = let c = count_cons is_shape unknown xs false refl in let r = shape_count xs in omega arith

no_shapes : (es : List EntryValue) → SaysNothing es → shapes_in es ≡ []
no_shapes [] h = refl
no_shapes (skipped ∷ es) h = no_shapes es (λ x c. h x (suc c.0, omega (arith, c.1), c.2))
no_shapes (unknown ∷ es) h = no_shapes es (λ x c. h x (suc c.0, omega (arith, c.1), c.2))
no_shapes (says x ∷ es) h = absurd (h x (0, omega arith, refl))

shape_back : (t : Shape) → record { required = from_list (ascending t.required); optional = from_list (ascending t.optional); least = t.least; most = t.most } ≡ t
shape_back t =
    ap (λ z. record { required = z; optional = from_list (ascending t.optional); least = t.least; most = t.most }) (set_of-ascending t.required)
    ∙ ap (λ z. record { required = t.required; optional = z; least = t.least; most = t.most }) (set_of-ascending t.optional)

module _ (names : List Name) where
  edge_shapes : (cs : List (Name × NodeId)) → shapes_in (map says (map (edge_line names) cs)) ≡ []
  edge_shapes [] = refl
  edge_shapes (c ∷ cs) = edge_shapes cs

  other_shapes : (o : Option (Class × NodeId)) → shapes_in (map says (other_lines names o)) ≡ []
  other_shapes None = refl
  other_shapes (Some o) = refl

  all_shapes : (ss : List Shape) → map as_shape (shapes_in (map says (map shape_line ss))) ≡ ss
  all_shapes [] = refl
  all_shapes (s ∷ ss) = λ i. shape_back s i ∷ all_shapes ss i

  inner_shapes : (n : NodeValue) → map as_shape (shapes_in (map says (inner_lines names n))) ≡ n.shapes
  inner_shapes n =
      ap (λ z. map as_shape (shapes_in z)) (map-append says (map (edge_line names) n.children) (other_lines names n.other ++ map shape_line n.shapes))
      ∙ ap (map as_shape) (shapes_both (map says (map (edge_line names) n.children)) (map says (other_lines names n.other ++ map shape_line n.shapes)))
      ∙ ap (λ z. map as_shape (z ++ shapes_in (map says (other_lines names n.other ++ map shape_line n.shapes)))) (edge_shapes n.children)
      ∙ ap (λ z. map as_shape (shapes_in z)) (map-append says (other_lines names n.other) (map shape_line n.shapes))
      ∙ ap (map as_shape) (shapes_both (map says (other_lines names n.other)) (map says (map shape_line n.shapes)))
      ∙ ap (λ z. map as_shape (z ++ shapes_in (map says (map shape_line n.shapes)))) (other_shapes n.other)
      ∙ all_shapes n.shapes

  pub shapes_behind : (n : NodeValue) (tail : List EntryValue) → SaysNothing tail
      → map as_shape (shapes_in (map says (inner_lines names n) ++ tail)) ≡ n.shapes
  shapes_behind n tail nothing =
      ap (map as_shape) (shapes_both (map says (inner_lines names n)) tail)
      ∙ ap (λ z. map as_shape (shapes_in (map says (inner_lines names n)) ++ z)) (no_shapes tail nothing)
      ∙ ap (map as_shape) (append-nil (shapes_in (map says (inner_lines names n))))
      ∙ inner_shapes n
