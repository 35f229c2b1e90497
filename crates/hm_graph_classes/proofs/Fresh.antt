-- A reduced graph stays reduced where the vertex behind it is alike to none of its own.
use Rattle.std.proofs.Common.{◌≡◌, ℕ, zero, suc, ◌+◌, ◌<◌, List, [], ◌∷◌, ◌++◌, length, slice_get, Some, All, inl, inr, refl, sym, ap, subst, ◌∙◌, arith, length-append}
use Rattle.std.specs.List.{AllZip}
use Rattle.std.proofs.lemmas.Bool.{cases_lt}
use Rattle.std.specs.Option.{option_map}
use Rattle.std.proofs.lemmas.Option.{same_Some, slice_get_within}
use Rattle.std.proofs.lemmas.List.Elements.{All-nil, All-cons, All-head, All-tail, All-append, All-weaker}
use Rattle.hm_graph.specs.declared.sameness.Vertex.{Vertex}
use Rattle.hm_graph.specs.Same.{Graph, next_at, face, seen_along, AreAlike}
use Rattle.hm_graph.proofs.Alike.{alike_sym, alike_trans, alike_label, alike_next}
use Rattle.hm_graph_classes.specs.Reduced.{IsReduced, HasVertex}
use Rattle.hm_graph_classes.proofs.Places.{at_front, at_last, there, label_is, next_is}
use Rattle.hm_graph_classes.proofs.Grown.{alike_front, seen_from}
use Rattle.hm_graph.proofs.Search.{closed_at}

-- ---- a vertex is known by its label and its edges

module _ (g : Graph) (r : IsReduced g) where
  has_below : (i label : ℕ) (next : List ℕ) → HasVertex g i label next → i < length g
  has_below i label next h = slice_get_within g i h.vertex h.is

  face_is : (i label : ℕ) (next : List ℕ) → HasVertex g i label next → seen_along g i [] ≡ Some (label, length next)
  face_is i label next h =
      let label : h.vertex.label ≡ label = h.label_is in
      let count : length h.vertex.next.items ≡ length next = ap length h.next_is in
      ap (option_map face) h.is ∙ (λ t. Some (label t, count t))

  edges_are : (i label : ℕ) (next : List ℕ) → HasVertex g i label next → next_at g i ≡ next
  edges_are i label next h = next_is g i h.vertex h.is ∙ h.next_is

  pub has_once : (i j label : ℕ) (next : List ℕ) → HasVertex g i label next → HasVertex g j label next → i ≡ j
  has_once i j label next h k = r.apart i j (has_below i label next h) (has_below j label next k) (record { along = same })
    where
      same : (way : List ℕ) → seen_along g i way ≡ seen_along g j way
      same [] = face_is i label next h ∙ sym (face_is j label next k)
      same (e ∷ way) = ap (λ (l : List ℕ). seen_from g way (slice_get l e)) (edges_are i label next h ∙ sym (edges_are j label next k))

  pub loop_once : (i j label first : ℕ) → HasVertex g i label (first ∷ i ∷ []) → HasVertex g j label (first ∷ j ∷ []) → i ≡ j
  loop_once i j label first h k =
      r.apart i j (has_below i label (first ∷ i ∷ []) h) (has_below j label (first ∷ j ∷ []) k) (record { along = same })
    where
      step : (e : ℕ) (way : List ℕ) → seen_along g i way ≡ seen_along g j way
          → seen_from g way (slice_get (first ∷ i ∷ []) e) ≡ seen_from g way (slice_get (first ∷ j ∷ []) e)
      step zero way rest = refl
      step (suc zero) way rest = rest
      step (suc (suc e)) way rest = refl

      same : (way : List ℕ) → seen_along g i way ≡ seen_along g j way
      same [] = face_is i label (first ∷ i ∷ []) h ∙ sym (face_is j label (first ∷ j ∷ []) k)
      same (e ∷ way) =
          ap (λ (l : List ℕ). seen_from g way (slice_get l e)) (edges_are i label (first ∷ i ∷ []) h) ∙ step e way (same way)
          ∙ sym (ap (λ (l : List ℕ). seen_from g way (slice_get l e)) (edges_are j label (first ∷ j ∷ []) k))

-- ---- one vertex more

module _ (g : Graph) (v : Vertex) (r : IsReduced g) where
  abbrev new : Graph
  new = g ++ v ∷ []

  size : length (g ++ v ∷ []) ≡ length g + 1
  size = length-append g (v ∷ [])

  pub reduced_more : All (λ k. k < length g + 1) v.next.items → ((j : ℕ) → j < length g → ¬ (AreAlike (g ++ v ∷ []) (length g) j)) → IsReduced (g ++ v ∷ [])
  reduced_more edges fresh = record {
    closed = subst (λ n. All (λ v. All (λ k. k < n) v.next.items) new) (sym size)
        (All-append (λ (v : Vertex). All (λ k. k < length g + 1) v.next.items) g (v ∷ [])
        (All-weaker (λ (v : Vertex). All (λ k. k < length g) v.next.items) (λ (v : Vertex). All (λ k. k < length g + 1) v.next.items)
        (λ v h. All-weaker (λ k. k < length g) (λ k. k < length g + 1) (λ k lt. omega (arith, lt)) v.next.items h) g r.closed)
        (All-cons (λ (v : Vertex). All (λ k. k < length g + 1) v.next.items) v [] edges
        (All-nil (λ (v : Vertex). All (λ k. k < length g + 1) v.next.items))));
    apart = λ i j one two a. apart i j (omega (arith, one, size)) (omega (arith, two, size)) a;
  }
    where
      apart : (i j : ℕ) → i < length g + 1 → j < length g + 1 → AreAlike (g ++ v ∷ []) i j → i ≡ j
      apart i j one two a =
          elim (cases_lt i (length g)) [
            | inl less ↦ elim (cases_lt j (length g)) [
              | inl below ↦ r.apart i j less below ((alike_front g (v ∷ []) r.closed i j less below).0 a)
              | inr past ↦
                  let e : j ≡ length g = omega arith in
                  absurd (fresh i less (subst (λ j. AreAlike (g ++ v ∷ []) j i) e (alike_sym (g ++ v ∷ []) i j a)))
            ]
            | inr past ↦ elim (cases_lt j (length g)) [
              | inl below ↦ let e : i ≡ length g = omega arith in absurd (fresh j below (subst (λ i. AreAlike (g ++ v ∷ []) i j) e a))
              | inr past2 ↦ omega arith
            ]
          ]

  -- a vertex that is alike to the new one has its label
  label_same : (j : ℕ) (w : Vertex) → slice_get g j ≡ Some w → AreAlike (g ++ v ∷ []) (length g) j → w.label ≡ v.label
  label_same j w e a =
      let lt = slice_get_within g j w e in
      same_Some w.label v.label (sym (label_is new j w (at_front g (v ∷ []) j lt ∙ e)) ∙ sym (alike_label new (length g) j a)
      ∙ label_is new (length g) v (at_last g v))

  edges_alike : (j : ℕ) (w : Vertex) → slice_get g j ≡ Some w → AreAlike (g ++ v ∷ []) (length g) j → AllZip (AreAlike (g ++ v ∷ [])) v.next.items w.next.items
  edges_alike j w e a =
      let lt = slice_get_within g j w e in
      subst (λ l. AllZip (AreAlike new) l w.next.items) (next_is new (length g) v (at_last g v))
      (subst (AllZip (AreAlike new) (next_at new (length g))) (next_is new j w (at_front g (v ∷ []) j lt ∙ e)) (alike_next new (length g) j a))

  one_is : (a b : ℕ) → a < length g → b < length g → AreAlike (g ++ v ∷ []) a b → a ≡ b
  one_is a b one two h = r.apart a b one two ((alike_front g (v ∷ []) r.closed a b one two).0 h)

  all_same : (xs ys : List ℕ) → All (λ k. k < length g) xs → All (λ k. k < length g) ys → AllZip (AreAlike (g ++ v ∷ [])) xs ys → xs ≡ ys
  all_same [] [] p q h = refl
  all_same [] (y ∷ ys) p q h = absurd h
  all_same (x ∷ xs) [] p q h = absurd h
  all_same (x ∷ xs) (y ∷ ys) p q h =
      let In : ℕ → Type 0 = λ k. k < length g in
      let one = one_is x y (All-head In x xs p) (All-head In y ys q) h.0 in
      let rest = all_same xs ys (All-tail In x xs p) (All-tail In y ys q) h.1 in
      λ t. one t ∷ rest t

  inside : (j : ℕ) (w : Vertex) → slice_get g j ≡ Some w → All (λ k. k < length g) w.next.items
  inside j w e = subst (All (λ k. k < length g)) (next_is g j w e) (closed_at g j r.closed)

  -- and its edges, where those lead to vertices that were there
  pub alike_has : All (λ k. k < length g) v.next.items → (j : ℕ) → j < length g → AreAlike (g ++ v ∷ []) (length g) j → HasVertex g j v.label v.next.items
  alike_has edges j lt a =
      let w = there g j lt in
      record {
        vertex = w.0;
        is = w.1;
        label_is = label_same j w.0 w.1 a;
        next_is = sym (all_same v.next.items w.0.next.items edges (inside j w.0 w.1) (edges_alike j w.0 w.1 a));
      }

  -- and where the second one leads to itself, it is one to itself there too
  pub alike_loop : (first : ℕ) → first < length g → v.next.items ≡ first ∷ length g ∷ [] → (j : ℕ) → j < length g → AreAlike (g ++ v ∷ []) (length g) j
      → HasVertex g j v.label (first ∷ j ∷ [])
  alike_loop first low is j lt a =
      let w = there g j lt in
      record {
        vertex = w.0;
        is = w.1;
        label_is = label_same j w.0 w.1 a;
        next_is = both w.0.next.items (inside j w.0 w.1) (subst (λ l. AllZip (AreAlike new) l w.0.next.items) is (edges_alike j w.0 w.1 a));
      }
    where
      both : (ys : List ℕ) → All (λ k. k < length g) ys → AllZip (AreAlike (g ++ v ∷ [])) (first ∷ length g ∷ []) ys → ys ≡ first ∷ j ∷ []
      both [] p h = absurd h
      both (y ∷ []) p h = absurd h.1
      both (y ∷ z ∷ w ∷ ys) p h = absurd h.1.1
      both (y ∷ z ∷ []) p h =
          let In : ℕ → Type 0 = λ k. k < length g in
          let inside_z : z < length g = All-head In z [] (All-tail In y (z ∷ []) p) in
          let one : first ≡ y = one_is first y low (All-head In y (z ∷ []) p) h.0 in
          let two : j ≡ z = one_is j z lt inside_z (alike_trans new j (length g) z (alike_sym new (length g) j a) h.1.0) in
          λ t. sym one t ∷ sym two t ∷ []
