-- The classes of a partition by their numbers, and the graph of them.
use Rattle.std.proofs.Common.{◌≡◌, ℕ, ◌+◌, ◌<◌, List, [], ◌∷◌, ◌++◌, length, map, slice_get, Some, All, inl, inr, refl, sym, ap, subst, ◌∙◌, arith, length-append}
use Rattle.std.proofs.lemmas.Bool.{cases_lt}
use Rattle.std.proofs.lemmas.List.{get_or_append_left, get_or_push}
use Rattle.std.proofs.lemmas.List.Elements.{All-head, All-tail, All-map, All-weaker}
use Rattle.std.proofs.lemmas.Option.{same_Some, slice_get_within, get_or_from_slice_get}
use Rattle.hm_graph.specs.declared.sameness.Vertex.{Vertex}
use Rattle.hm_graph.specs.Same.{Graph, IsClosed, next_at, AreAlike}
use Rattle.hm_graph_classes.specs.Reduced.{IsReduced, HasVertex, AreClasses, class_at}
use Rattle.hm_graph_classes.specs.Partitions.{IsStable, AreNumbers, IsQuotient}
use Rattle.hm_graph_classes.proofs.Places.{at_front, at_last, there, label_is, next_is}
use Rattle.hm_graph_classes.proofs.Classes.{classes_alike}
use Rattle.hm_graph.proofs.Search.{closed_at}

pub numbers_begin : (firsts heads numbers : List ℕ) → heads ≡ [] → numbers ≡ [] → AreNumbers firsts heads numbers 0
numbers_begin firsts heads numbers none empty = record {
  size = ap length empty;
  there = λ i lt. absurd (omega (arith, lt));
  back = λ c h e. let f = slice_get_within heads c h e in absurd (omega (arith, f, ap length none));
}

module _ (firsts heads numbers : List ℕ) (i : ℕ) (h : AreNumbers firsts heads numbers i) where
  module _ (n : ℕ) where
    before : (j : ℕ) → j < i → class_at (numbers ++ n ∷ []) j ≡ class_at numbers j
    before j lt = get_or_append_left numbers (n ∷ []) 0 j (omega (arith, lt, h.size))

    last : class_at (numbers ++ n ∷ []) i ≡ n
    last = get_or_push numbers n 0 i h.size

    longer : length (numbers ++ n ∷ []) ≡ i + 1
    longer = omega (arith, length-append numbers (n ∷ []), h.size)

  -- one more vertex, of a class that there was
  pub numbers_same : class_at firsts i < i → class_at firsts (class_at firsts i) ≡ class_at firsts i
      → AreNumbers firsts heads (numbers ++ class_at numbers (class_at firsts i) ∷ []) (i + 1)
  numbers_same low one =
      let n = class_at numbers (class_at firsts i) in
      record {
        size = longer n;
        there = λ j lt. elim (cases_lt j i) [
          | inl less ↦ ap (slice_get heads) (before n j less) ∙ h.there j less
          | inr le ↦
              let e : i ≡ j = omega arith in
              subst (λ j. slice_get heads (class_at (numbers ++ n ∷ []) j) ≡ Some (class_at firsts j)) e
              (ap (slice_get heads) (last n) ∙ h.there (class_at firsts i) low ∙ ap Some one)
        ];
        back = λ c k e. let w = h.back c k e in (omega (arith, w.0), w.1, before n k w.0 ∙ w.2);
      }

  -- or the first of one
  pub numbers_new : class_at firsts i ≡ i → AreNumbers firsts (heads ++ i ∷ []) (numbers ++ length heads ∷ []) (i + 1)
  numbers_new first = record {
    size = longer (length heads);
    there = λ j lt. elim (cases_lt j i) [
      | inl less ↦
          let at = h.there j less in
          ap (slice_get (heads ++ i ∷ [])) (before (length heads) j less)
          ∙ at_front heads (i ∷ []) (class_at numbers j) (slice_get_within heads (class_at numbers j) (class_at firsts j) at) ∙ at
      | inr le ↦
          let e : i ≡ j = omega arith in
          subst (λ j. slice_get (heads ++ i ∷ []) (class_at (numbers ++ length heads ∷ []) j) ≡ Some (class_at firsts j)) e
          (ap (slice_get (heads ++ i ∷ [])) (last (length heads)) ∙ at_last heads i ∙ ap Some (sym first))
    ];
    back = back;
  }
    where
      back : (c k : ℕ) → slice_get (heads ++ i ∷ []) c ≡ Some k
          → (k < i + 1) × (class_at firsts k ≡ k) × (class_at (numbers ++ length heads ∷ []) k ≡ c)
      back c k e = elim (cases_lt c (length heads)) [
        | inl less ↦
            let w = h.back c k (sym (at_front heads (i ∷ []) c less) ∙ e) in
            (omega (arith, w.0), w.1, before (length heads) k w.0 ∙ w.2)
        | inr le ↦
            let within = slice_get_within (heads ++ i ∷ []) c k e in
            let end : length heads ≡ c = omega (arith, within, length-append heads (i ∷ [])) in
            let is : i ≡ k = same_Some i k (sym (at_last heads i) ∙ ap (slice_get (heads ++ i ∷ [])) end ∙ e) in (
              omega (arith, is),
              subst (λ k. class_at firsts k ≡ k) is first,
              subst (λ k. class_at (numbers ++ length heads ∷ []) k ≡ c) is (last (length heads) ∙ end),
            )
      ]

-- ---- the graph of the classes

module _ (g : Graph) (heads numbers : List ℕ) (vertices : Graph) (i : ℕ) (h : IsQuotient g heads numbers vertices i) (v w : Vertex) (head : ℕ)
    (at : slice_get heads i ≡ Some head) (is : slice_get g head ≡ Some v) (label : w.label ≡ v.label)
    (next : w.next.items ≡ map (class_at numbers) v.next.items) where
  pub quotient_more : IsQuotient g heads numbers (vertices ++ w ∷ []) (i + 1)
  quotient_more = record { size = omega (arith, length-append vertices (w ∷ []), h.size); each = each }
    where
      each : (c k : ℕ) (u : Vertex) → c < i + 1 → slice_get heads c ≡ Some k → slice_get g k ≡ Some u
          → HasVertex (vertices ++ w ∷ []) c u.label (map (class_at numbers) u.next.items)
      each c k u lt e f = elim (cases_lt c i) [
        | inl less ↦
            let b = h.each c k u less e f in
            record {
              vertex = b.vertex;
              is = at_front vertices (w ∷ []) c (omega (arith, less, h.size)) ∙ b.is;
              label_is = b.label_is;
              next_is = b.next_is;
            }
        | inr le ↦
            let end : length vertices ≡ c = omega (arith, h.size) in
            let here : i ≡ c = omega arith in
            let same : head ≡ k = same_Some head k (sym at ∙ ap (slice_get heads) here ∙ e) in
            let one : v ≡ u = same_Some v u (sym is ∙ ap (slice_get g) same ∙ f) in
            record {
              vertex = w;
              is = ap (slice_get (vertices ++ w ∷ [])) (sym end) ∙ at_last vertices w;
              label_is = label ∙ ap (λ (v : Vertex). v.label) one;
              next_is = next ∙ ap (λ (v : Vertex). map (class_at numbers) v.next.items) one;
            }
      ]

module _ (g : Graph) (closed : IsClosed g) (firsts heads numbers : List ℕ) (vertices : Graph) (s : IsStable g firsts)
    (h : AreNumbers firsts heads numbers (length g)) (q : IsQuotient g heads numbers vertices (length heads)) where
  one_number : (i j : ℕ) → i < length g → j < length g → class_at firsts i ≡ class_at firsts j → class_at numbers i ≡ class_at numbers j
  one_number i j one two e =
      sym (h.back (class_at numbers i) (class_at firsts i) (h.there i one)).2 ∙ ap (class_at numbers) e
      ∙ (h.back (class_at numbers j) (class_at firsts j) (h.there j two)).2

  numbers_of : (xs ys : List ℕ) → All (λ k. k < length g) xs → All (λ k. k < length g) ys → map (class_at firsts) xs ≡ map (class_at firsts) ys
      → map (class_at numbers) xs ≡ map (class_at numbers) ys
  numbers_of [] [] a b e = refl
  numbers_of [] (y ∷ ys) a b e = cc
  numbers_of (x ∷ xs) [] a b e = cc
  numbers_of (x ∷ xs) (y ∷ ys) a b e =
      let In : ℕ → Type 0 = λ k. k < length g in
      let first : class_at firsts x ≡ class_at firsts y = cc in
      let others : map (class_at firsts) xs ≡ map (class_at firsts) ys = cc in
      let one = one_number x y (All-head In x xs a) (All-head In y ys b) first in
      let rest = numbers_of xs ys (All-tail In x xs a) (All-tail In y ys b) others in
      λ t. one t ∷ rest t

  pub quotient_classes : AreClasses g vertices numbers
  quotient_classes = record { size = h.size; each = each }
    where
      each : (i c : ℕ) (v : Vertex) → slice_get g i ≡ Some v → slice_get numbers i ≡ Some c
          → HasVertex vertices c v.label (map (class_at numbers) v.next.items)
      each i c v e f =
          let lt = slice_get_within g i v e in
          let head = class_at firsts i in
          let low = s.low i lt in
          let u = there g head (omega (arith, lt, low)) in
          let is : class_at numbers i ≡ c = get_or_from_slice_get numbers i c 0 f in
          let at : slice_get heads c ≡ Some head = ap (slice_get heads) (sym is) ∙ h.there i lt in
          let key = s.key i lt in
          let has = q.each c head u.0 (slice_get_within heads c head at) at u.1 in
          record {
            vertex = has.vertex;
            is = has.is;
            label_is = has.label_is ∙ same_Some u.0.label v.label (sym (label_is g head u.0 u.1) ∙ key.label ∙ label_is g i v e);
            next_is = has.next_is ∙ ap (map (class_at numbers)) (sym (next_is g head u.0 u.1))
                ∙ numbers_of (next_at g head) (next_at g i) (closed_at g head closed) (closed_at g i closed) key.below
                ∙ ap (map (class_at numbers)) (next_is g i v e);
          }

  number_inside : (k : ℕ) → k < length g → class_at numbers k < length vertices
  number_inside k lt = let within = slice_get_within heads (class_at numbers k) (class_at firsts k) (h.there k lt) in omega (arith, within, q.size)

  pub quotient_reduced : IsReduced vertices
  quotient_reduced = record { closed = vertices_closed; apart = apart }
    where
      inside : (xs : List ℕ) → All (λ k. k < length g) xs → All (λ k. k < length vertices) (map (class_at numbers) xs)
      inside xs all = All-map (λ k. k < length vertices) (class_at numbers) xs
          (All-weaker (λ k. k < length g) (λ k. class_at numbers k < length vertices) number_inside xs all)

      vertices_closed : IsClosed vertices
      vertices_closed c v lt =
          let k = there heads c (omega (arith, lt, q.size)) in
          let w = h.back c k.0 k.1 in
          let u = there g k.0 w.0 in
          let has = q.each c k.0 u.0 (omega (arith, lt, q.size)) k.1 u.1 in
          let edges = subst (All (λ k. k < length g)) (next_is g k.0 u.0 u.1) (closed_at g k.0 closed) in
          subst (λ (v : Vertex). All (λ k. k < length vertices) v.next.items) (sym (get_or_from_slice_get vertices c has.vertex v has.is))
          (subst (All (λ k. k < length vertices)) (sym has.next_is) (inside u.0.next.items edges))

      apart : (a b : ℕ) → a < length vertices → b < length vertices → AreAlike vertices a b → a ≡ b
      apart a b one two alike =
          let i = there heads a (omega (arith, one, q.size)) in
          let j = there heads b (omega (arith, two, q.size)) in
          let u = h.back a i.0 i.1 in
          let w = h.back b j.0 j.1 in
          let there : AreAlike vertices (class_at numbers i.0) (class_at numbers j.0) =
          subst (λ a. AreAlike vertices a (class_at numbers j.0)) (sym u.2) (subst (AreAlike vertices a) (sym w.2) alike) in
          let same = s.alike i.0 j.0 u.0 w.0 ((classes_alike g vertices numbers closed quotient_classes i.0 j.0 u.0 w.0).0 there) in
          let heads_same : i.0 ≡ j.0 = sym u.1 ∙ same ∙ w.1 in
          sym u.2 ∙ ap (class_at numbers) heads_same ∙ w.2
