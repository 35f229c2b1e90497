-- The classes of a graph are those of its alike vertices.
use Rattle.std.proofs.Common.{◌≡◌, ◌↔◌, ℕ, ◌<◌, List, [], ◌∷◌, length, map, slice_get, Option, Some, None, refl, sym, ap, ◌∙◌, arith}
use Rattle.std.specs.Option.{option_map}
use Rattle.std.proofs.lemmas.List.{length-map}
use Rattle.std.proofs.lemmas.Option.{slice_get-map, slice_get-get_or, slice_get_within, get_or_from_slice_get}
use Rattle.hm_graph.specs.declared.sameness.Vertex.{Vertex}
use Rattle.hm_graph.specs.Same.{Graph, IsClosed, next_at, edges_of, face, seen_along, AreAlike}
use Rattle.hm_graph_classes.specs.Reduced.{IsReduced, HasVertex, AreClasses, class_at}
use Rattle.hm_graph_classes.proofs.Places.{there, all_read, next_is}
use Rattle.hm_graph_classes.proofs.Grown.{seen_from}
use Rattle.hm_graph.proofs.Search.{closed_at}

module _ (g reduced : Graph) (classes : List ℕ) (closed : IsClosed g) (h : AreClasses g reduced classes) where
  class_is : (i : ℕ) → i < length g → slice_get classes i ≡ Some (class_at classes i)
  class_is i lt = slice_get-get_or classes i 0 (omega (arith, lt, h.size))

  class_has : (i : ℕ) (v : Vertex) → slice_get g i ≡ Some v → HasVertex reduced (class_at classes i) v.label (map (class_at classes) v.next.items)
  class_has i v e = h.each i (class_at classes i) v e (class_is i (slice_get_within g i v e))

  -- a class is in the reduced graph
  pub class_inside : (i : ℕ) → i < length g → class_at classes i < length reduced
  class_inside i lt =
      let v = there g i lt in
      let w = class_has i v.0 v.1 in
      slice_get_within reduced (class_at classes i) w.vertex w.is

  face_is : (i : ℕ) (v : Vertex) → slice_get g i ≡ Some v → option_map face (slice_get reduced (class_at classes i)) ≡ option_map face (slice_get g i)
  face_is i v e =
      let w = class_has i v e in
      let label : w.vertex.label ≡ v.label = w.label_is in
      let count : length w.vertex.next.items ≡ length v.next.items = ap length w.next_is ∙ length-map v.next.items (class_at classes) in
      ap (option_map face) w.is ∙ (λ t. Some (label t, count t)) ∙ sym (ap (option_map face) e)

  edges_are : (i : ℕ) (v : Vertex) → slice_get g i ≡ Some v → next_at reduced (class_at classes i) ≡ map (class_at classes) (next_at g i)
  edges_are i v e =
      let w = class_has i v e in
      ap edges_of w.is ∙ w.next_is ∙ sym (ap (map (class_at classes)) (next_is g i v e))

  -- on every way the same is seen of a vertex and of its class
  pub seen_class : (way : List ℕ) (i : ℕ) → i < length g → seen_along reduced (class_at classes i) way ≡ seen_along g i way
  seen_class [] i lt = let v = there g i lt in face_is i v.0 v.1
  seen_class (k ∷ way) i lt =
      let v = there g i lt in
      ap (λ (l : List ℕ). seen_from reduced way (slice_get l k)) (edges_are i v.0 v.1)
      ∙ ap (seen_from reduced way) (slice_get-map (class_at classes) (next_at g i) k)
      ∙ go (slice_get (next_at g i) k) refl (λ j. seen_class way j)
    where
      go : (x : Option ℕ) → slice_get (next_at g i) k ≡ x
          → ((j : ℕ) → j < length g → seen_along reduced (class_at classes j) way ≡ seen_along g j way)
          → seen_from reduced way (option_map (class_at classes) x) ≡ seen_from g way x
      go None e rest = refl
      go (Some j) e rest = rest j (all_read (λ k. k < length g) (next_at g i) k j e (closed_at g i closed))

  -- so classes are alike exactly where the vertices are
  pub classes_alike : (i j : ℕ) → i < length g → j < length g → AreAlike reduced (class_at classes i) (class_at classes j) ↔ AreAlike g i j
  classes_alike i j one two = (
    λ a. record { along = λ way. sym (seen_class way i one) ∙ a.along way ∙ seen_class way j two },
    λ a. record { along = λ way. seen_class way i one ∙ a.along way ∙ sym (seen_class way j two) },
  )

  -- and in a reduced graph they are one exactly there
  pub same_class : IsReduced reduced → (i j : ℕ) → i < length g → j < length g → (class_at classes i ≡ class_at classes j) ↔ AreAlike g i j
  same_class r i j one two = (
    λ e. (classes_alike i j one two).0 (record { along = λ way. ap (λ c. seen_along reduced c way) e }),
    λ a. r.apart (class_at classes i) (class_at classes j) (class_inside i one) (class_inside j two) ((classes_alike i j one two).1 a),
  )

  -- the same by what the list of classes has
  pub same_classes : IsReduced reduced → (i j a b : ℕ) → slice_get classes i ≡ Some a → slice_get classes j ≡ Some b → (a ≡ b) ↔ AreAlike g i j
  same_classes r i j a b e f =
      let one : i < length g = omega (arith, slice_get_within classes i a e, h.size) in
      let two : j < length g = omega (arith, slice_get_within classes j b f, h.size) in
      let is_a : class_at classes i ≡ a = get_or_from_slice_get classes i a 0 e in
      let is_b : class_at classes j ≡ b = get_or_from_slice_get classes j b 0 f in
      let w = same_class r i j one two in
      (λ same. w.0 (is_a ∙ same ∙ sym is_b), λ alike. sym is_a ∙ w.1 alike ∙ is_b)
