-- Nodes have equal classes exactly where what they stand for is the same.
use Rattle.std.proofs.Common.{◌≡◌, ℕ, zero, suc, ◌<◌, List, [], ◌∷◌, length, map, slice_get, Option, Some, None, refl, sym, ap, subst, ◌∙◌, arith, option_and_then}
use Rattle.std.specs.Option.{option_map}
use Rattle.std.specs.List.{AllZip}
use Rattle.std.proofs.lemmas.List.{length-map}
use Rattle.std.proofs.lemmas.List.Elements.{length_all_zip}
use Rattle.std.proofs.lemmas.Option.{same_Some, slice_get_within, get_or_from_slice_get}
use Rattle.hm_graph.specs.declared.sameness.Vertex.{Vertex}
use Rattle.hm_graph.specs.Same.{next_at, edges_of, face, reached, seen_along}
use Rattle.hm_graph_classes.specs.Reduced.{class_at}
use Rattle.hm_schema.specs.declared.node.NodeId.{NodeId}
use Rattle.hm_schema.specs.Values.{NodeValue}
use Rattle.hm_schema.specs.Tidied.{tidied}
use Rattle.hm_schema.specs.Sameness.{Match}
use Rattle.hm_schema.specs.Labels.{HaveOneLabel}
use Rattle.hm_schema.proofs.LabelNumbers.{label_from_number, number_from_label}
use Rattle.hm_types_forms.specs.Forms.{Step, Way, label_of, next_of, form}
use Rattle.hm_types_forms.specs.SameForms.{IsSame, MatchThere, nothing, tidy}
use Rattle.hm_types_table.specs.declared.annotations.Annotations.{Annotations}
use Rattle.hm_types_table.specs.Tables.{Nodes}
use Rattle.hm_types_table.specs.Classes.{HaveClasses, AreClassed, IsClassed, ends}
use Rattle.hm_types_table.proofs.Places.{there}
use Rattle.hm_types_table.proofs.Grown.{formed_at}
use Rattle.hm_types_forms.proofs.TidiedSteps.{next_in_range, tidied_next, label_tidied, tidy_gone, tidy_taken}
use Rattle.hm_types_forms.proofs.SameSchemas.{ArePaired, label_there, same_labels, same_match}
use Rattle.hm_types_forms.proofs.Matching.{Both, neither, both, label_from_bare, match_step}
use Rattle.hm_types_table.proofs.Matching.{match_ends, match_equal}

module _ (nodes : Nodes) (s : Annotations) (h : AreClassed nodes s) where
  abbrev class : NodeId → ℕ
  class j = class_at s.classes.items j.place

  -- ---- a node

  module _ (i : NodeId) (n : NodeValue) (at : slice_get nodes i.place ≡ Some n) where
    abbrev kept : IsClassed s i.place n
    kept = h.each i.place n at

    class_inside : class i < length s.reduced
    class_inside = slice_get_within s.reduced (class i) kept.vertex.vertex kept.vertex.is

    next_is : next_at s.reduced (class i) ≡ map class (ends (tidied n))
    next_is = ap edges_of kept.vertex.is ∙ kept.vertex.next_is

    step_inside : (st : Step) (a : NodeId) → next_of (tidied n) st ≡ Some a → a.place < length nodes
    step_inside st a e = next_in_range (length nodes) n st a (formed_at nodes i n h.formed at) (tidied_next n st a e)

  -- ---- two nodes

  module _ (i j : NodeId) (n m : NodeValue) (at : slice_get nodes i.place ≡ Some n) (to : slice_get nodes j.place ≡ Some m) where
    one : IsClassed s i.place n
    one = h.each i.place n at

    two : IsClassed s j.place m
    two = h.each j.place m to

    -- of one class
    module _ (same : class i ≡ class j) where
      vertices : one.vertex.vertex ≡ two.vertex.vertex
      vertices = same_Some one.vertex.vertex two.vertex.vertex (sym one.vertex.is ∙ ap (slice_get s.reduced) same ∙ two.vertex.is)

      numbers : one.outline.label ≡ two.outline.label
      numbers = sym one.vertex.label_is ∙ ap (λ (v : Vertex). v.label) vertices ∙ two.vertex.label_is

      edges : map class (ends (tidied n)) ≡ map class (ends (tidied m))
      edges = sym one.vertex.next_is ∙ ap (λ (v : Vertex). v.next.items) vertices ∙ two.vertex.next_is

      class_label : HaveOneLabel (tidied (label_of n)) (tidied (label_of m))
      class_label = label_from_number s.numbers (tidied (label_of n)) (tidied (label_of m)) one.outline.label two.outline.label one.outlined.number
          two.outlined.number h.numbering numbers

      class_match : Match (λ a b. class a ≡ class b) (tidied n) (tidied m)
      class_match = match_equal class class (tidied n) (tidied m)
          (label_from_bare (tidied n) (tidied m) (subst (λ l. HaveOneLabel l (label_of (tidied m))) (label_tidied n)
          (subst (HaveOneLabel (tidied (label_of n))) (label_tidied m) class_label))) edges

      class_there : MatchThere (tidy (form nodes i) []) (tidy (form nodes j) [])
      class_there = label_there nodes nodes i j n m at to class_label

    -- that stand for the same
    module _ (same : IsSame (form nodes i) (form nodes j)) where
      same_numbers : one.outline.label ≡ two.outline.label
      same_numbers = number_from_label s.numbers (tidied (label_of n)) (tidied (label_of m)) one.outline.label two.outline.label one.outlined.number
          two.outlined.number (same_labels nodes nodes i j n m at to same)

      same_ends : AllZip (ArePaired nodes nodes) (ends (tidied n)) (ends (tidied m))
      same_ends = match_ends (ArePaired nodes nodes) (tidied n) (tidied m)
          (same_match nodes nodes i j n m at to same (formed_at nodes i n h.formed at) (formed_at nodes j m h.formed to) (ArePaired nodes nodes) (λ a b p. p))

      same_face : option_map face (slice_get s.reduced (class i)) ≡ option_map face (slice_get s.reduced (class j))
      same_face =
          let label : one.vertex.vertex.label ≡ two.vertex.vertex.label = one.vertex.label_is ∙ same_numbers ∙ sym two.vertex.label_is in
          let count : length one.vertex.vertex.next.items ≡ length two.vertex.vertex.next.items =
          ap length one.vertex.next_is ∙ length-map (ends (tidied n)) class
          ∙ length_all_zip (ArePaired nodes nodes) (ends (tidied n)) (ends (tidied m)) same_ends
          ∙ sym (ap length two.vertex.next_is ∙ length-map (ends (tidied m)) class) in
          ap (option_map face) one.vertex.is ∙ (λ t. Some (label t, count t)) ∙ sym (ap (option_map face) two.vertex.is)

  -- ---- on each way down

  on_way : (w : Way) (i j : NodeId) → i.place < length nodes → j.place < length nodes → class i ≡ class j
      → MatchThere (tidy (form nodes i) w) (tidy (form nodes j) w)
  on_way [] i j in_i in_j same =
      let n = there nodes i.place in_i in
      let m = there nodes j.place in_j in
      class_there i j n.0 m.0 n.1 m.1 same
  on_way (st ∷ w) i j in_i in_j same =
      let n = there nodes i.place in_i in
      let m = there nodes j.place in_j in
      go n.0 m.0 n.1 m.1 (λ a b. on_way w a b) refl refl
      (match_step (λ a b. class a ≡ class b) (tidied n.0) (tidied m.0) (class_match i j n.0 m.0 n.1 m.1 same) st)
    where
      go : (n m : NodeValue) → slice_get nodes i.place ≡ Some n → slice_get nodes j.place ≡ Some m
          → ((a b : NodeId) → a.place < length nodes → b.place < length nodes → class a ≡ class b
          → MatchThere (tidy (form nodes a) w) (tidy (form nodes b) w))
          → {x y : Option NodeId} → next_of (tidied n) st ≡ x → next_of (tidied m) st ≡ y → Both (λ a b. class a ≡ class b) x y
          → MatchThere (tidy (form nodes i) (st ∷ w)) (tidy (form nodes j) (st ∷ w))
      go n m at to rest e f neither =
          subst (λ x. MatchThere x (tidy (form nodes j) (st ∷ w))) (sym (tidy_gone nodes i n at st w e))
          (subst (MatchThere None) (sym (tidy_gone nodes j m to st w f)) nothing)
      go n m at to rest e f (both {a} {b} r) =
          subst (λ x. MatchThere x (tidy (form nodes j) (st ∷ w))) (sym (tidy_taken nodes i n at st w a e))
          (subst (MatchThere (tidy (form nodes a) w)) (sym (tidy_taken nodes j m to st w b f))
          (rest a b (step_inside i n at st a e) (step_inside j m to st b f) r))

  -- ---- on each way in the graph

  -- what is seen along a way from the end of an edge
  abbrev seen_from : List ℕ → ℕ → List ℕ → Option (ℕ × ℕ)
  seen_from xs k way = option_and_then (λ j. option_map face (slice_get s.reduced j)) (option_and_then (λ j. reached s.reduced j way) (slice_get xs k))

  ends_see : (way : List ℕ) → ((a b : NodeId) → ArePaired nodes nodes a b → seen_along s.reduced (class a) way ≡ seen_along s.reduced (class b) way)
      → (xs ys : List NodeId) → AllZip (ArePaired nodes nodes) xs ys → (k : ℕ) → seen_from (map class xs) k way ≡ seen_from (map class ys) k way
  ends_see way f [] [] z k = refl
  ends_see way f [] (y ∷ ys) z k = absurd z
  ends_see way f (x ∷ xs) [] z k = absurd z
  ends_see way f (x ∷ xs) (y ∷ ys) z zero = f x y z.0
  ends_see way f (x ∷ xs) (y ∷ ys) z (suc k) = ends_see way f xs ys z.1 k

  along : (way : List ℕ) (i j : NodeId) → ArePaired nodes nodes i j → seen_along s.reduced (class i) way ≡ seen_along s.reduced (class j) way
  along [] i j p =
      let n = there nodes i.place p.first in
      let m = there nodes j.place p.second in
      same_face i j n.0 m.0 n.1 m.1 p.same
  along (k ∷ way) i j p =
      let n = there nodes i.place p.first in
      let m = there nodes j.place p.second in
      ap (λ l. seen_from l k way) (next_is i n.0 n.1)
      ∙ ends_see way (λ a b. along way a b) (ends (tidied n.0)) (ends (tidied m.0)) (same_ends i j n.0 m.0 n.1 m.1 p.same) k
      ∙ sym (ap (λ l. seen_from l k way) (next_is j m.0 m.1))

  one_class : (i j : NodeId) → ArePaired nodes nodes i j → class i ≡ class j
  one_class i j p =
      let n = there nodes i.place p.first in
      let m = there nodes j.place p.second in
      h.reduced.apart (class i) (class j) (class_inside i n.0 n.1) (class_inside j m.0 m.1) (record { along = λ way. along way i j p })

  pub have_classes : HaveClasses nodes s.classes.items
  have_classes = record {
    size = h.classes_size;
    same = λ i j a b at to.
        let one : class i ≡ a = get_or_from_slice_get s.classes.items i.place a 0 at in
        let two : class j ≡ b = get_or_from_slice_get s.classes.items j.place b 0 to in
        let in_i : i.place < length nodes = omega (arith, slice_get_within s.classes.items i.place a at, h.classes_size) in
        let in_j : j.place < length nodes = omega (arith, slice_get_within s.classes.items j.place b to, h.classes_size) in (
          λ e. record { on_each = λ w. on_way w i j in_i in_j (one ∙ e ∙ sym two) },
          λ e. sym one ∙ one_class i j (record { first = in_i; second = in_j; same = e }) ∙ two,
        );
  }
