-- Vertices that are alike on every way: an equivalence, whose vertices lead to alike ones. The same vertices are alike.
use Rattle.std.proofs.Common.{◌≡◌, ℕ, zero, suc, Bool, IsTrue, List, [], ◌∷◌, length, slice_get, option_and_then, Option, Some, None, refl, sym, ap, ◌∙◌, arith}
use Rattle.std.specs.Option.{option_map}
use Rattle.std.specs.List.{AllZip}
use Rattle.std.proofs.lemmas.Option.{same_Some}
use Rattle.std.proofs.lemmas.List.Elements.{length_all_zip}
use Rattle.hm_graph.specs.declared.sameness.Vertex.{Vertex}
use Rattle.hm_graph.specs.Same.{Graph, label_at, next_at, edges_of, face, reached, seen_along, Match, AreBisimilar, AreAlike}
use Rattle.hm_graph.specs.Forests.{up, Climbs}
use Rattle.hm_graph.specs.Forests.Climbs.{here, above}

-- ---- what is seen of a vertex

label_of : (v w : Option Vertex) → option_map face v ≡ option_map face w
    → option_map (λ (v : Vertex). v.label) v ≡ option_map (λ (v : Vertex). v.label) w
label_of None None e = refl
label_of None (Some w) e = cc
label_of (Some v) None e = cc
label_of (Some v) (Some w) e = ap (λ (p : ℕ × ℕ). Some p.0) (same_Some _ _ e)

count_of : (v w : Option Vertex) → option_map face v ≡ option_map face w → length (edges_of v) ≡ length (edges_of w)
count_of None None e = refl
count_of None (Some w) e = cc
count_of (Some v) None e = cc
count_of (Some v) (Some w) e = ap (λ (p : ℕ × ℕ). p.1) (same_Some _ _ e)

face_of : (v w : Option Vertex) → option_map (λ (v : Vertex). v.label) v ≡ option_map (λ (v : Vertex). v.label) w
    → length (edges_of v) ≡ length (edges_of w) → option_map face v ≡ option_map face w
face_of None None e l = refl
face_of None (Some w) e l = cc
face_of (Some v) None e l = cc
face_of (Some v) (Some w) e l = let label : v.label ≡ w.label = same_Some _ _ e in λ t. Some (label t, l t)

module _ (g : Graph) where
  pub alike_refl : (i : ℕ) → AreAlike g i i
  alike_refl i = record { along = λ way. refl }

  pub alike_sym : (i j : ℕ) → AreAlike g i j → AreAlike g j i
  alike_sym i j h = record { along = λ way. sym (h.along way) }

  pub alike_trans : (i j k : ℕ) → AreAlike g i j → AreAlike g j k → AreAlike g i k
  alike_trans i j k h f = record { along = λ way. h.along way ∙ f.along way }

  pub alike_label : (i j : ℕ) → AreAlike g i j → label_at g i ≡ label_at g j
  alike_label i j h = label_of (slice_get g i) (slice_get g j) (h.along [])

  pub alike_count : (i j : ℕ) → AreAlike g i j → length (next_at g i) ≡ length (next_at g j)
  alike_count i j h = count_of (slice_get g i) (slice_get g j) (h.along [])

  -- what is seen along a way that begins with an edge
  abbrev seen_from : List ℕ → ℕ → List ℕ → Option (ℕ × ℕ)
  seen_from xs k way = option_and_then (λ j. option_map face (slice_get g j)) (option_and_then (λ j. reached g j way) (slice_get xs k))

  alike_edges : (xs ys : List ℕ) → length xs ≡ length ys → ((k : ℕ) (way : List ℕ) → seen_from xs k way ≡ seen_from ys k way)
      → AllZip (AreAlike g) xs ys
  alike_edges [] [] e h = tt
  alike_edges [] (y ∷ ys) e h = absurd (omega arith)
  alike_edges (x ∷ xs) [] e h = absurd (omega arith)
  alike_edges (x ∷ xs) (y ∷ ys) e h = (record { along = λ way. h 0 way }, alike_edges xs ys (omega arith) (λ k way. h (suc k) way))

  pub alike_next : (i j : ℕ) → AreAlike g i j → AllZip (AreAlike g) (next_at g i) (next_at g j)
  alike_next i j h = alike_edges (next_at g i) (next_at g j) (alike_count i j h) (λ k way. h.along (k ∷ way))

  pub alike_climbs : {parents : List ℕ} {i r : ℕ} → ((a : ℕ) → AreAlike g a (up parents a)) → Climbs parents i r → AreAlike g i r
  alike_climbs {parents} {i} h here = alike_refl i
  alike_climbs {parents} {i} {r} h (above way) = alike_trans i (up parents i) r (h i) (alike_climbs h way)

  edges_see : (R : ℕ → ℕ → Type 0) (way : List ℕ) → ((a b : ℕ) → R a b → seen_along g a way ≡ seen_along g b way) → (xs ys : List ℕ)
      → AllZip R xs ys → (k : ℕ) → seen_from xs k way ≡ seen_from ys k way
  edges_see R way h [] [] r k = refl
  edges_see R way h [] (y ∷ ys) r k = absurd r
  edges_see R way h (x ∷ xs) [] r k = absurd r
  edges_see R way h (x ∷ xs) (y ∷ ys) r zero = h x y r.0
  edges_see R way h (x ∷ xs) (y ∷ ys) r (suc k) = edges_see R way h xs ys r.1 k

  paired_along : (paired : ℕ → ℕ → Bool) → ((a b : ℕ) → IsTrue (paired a b) → Match g (λ c d. IsTrue (paired c d)) a b) → (way : List ℕ)
      (i j : ℕ) → IsTrue (paired i j) → seen_along g i way ≡ seen_along g j way
  paired_along paired closed [] i j t =
      let m = closed i j t in
      face_of (slice_get g i) (slice_get g j) m.label (length_all_zip (λ c d. IsTrue (paired c d)) (next_at g i) (next_at g j) m.next)
  paired_along paired closed (k ∷ way) i j t =
      edges_see (λ c d. IsTrue (paired c d)) way (paired_along paired closed way) (next_at g i) (next_at g j) (closed i j t).next k

  pub same_alike : (i j : ℕ) → AreBisimilar g i j → AreAlike g i j
  same_alike i j s = record { along = λ way. paired_along s.paired s.closed way i j s.here }
