-- Two vertices are the same exactly where they are alike on every way: a search finds which it is.
use Rattle.std.proofs.Common.{◌≡◌, ℕ, zero, suc, ◌+◌, ◌<◌, ◌≤◌, List, [], ◌∷◌, ◌++◌, length, get_or, set, Option, Some, None, refl, sym, ap, subst, ◌∙◌, arith, ◌⊎◌, inl, inr, length-append, zero-add}
use Rattle.std.specs.List.{zip}
use Rattle.std.proofs.lemmas.Bool.{cases_eq, cases_lt}
use Rattle.std.proofs.lemmas.List.Elements.{All-head}
use Rattle.std.proofs.lemmas.Option.{same_Some}
use Rattle.hm_graph.specs.Same.{Graph, IsClosed, label_at, next_at, AreBisimilar, AreAlike}
use Rattle.hm_graph.specs.Forests.{up, Climbs, AreRoots}
use Rattle.hm_graph.specs.Forests.Climbs.{here, above}
use Rattle.hm_graph.proofs.Pairs.{all_right}
use Rattle.hm_graph.proofs.Forests.{climb}
use Rattle.hm_graph.proofs.Search.{IsSearch, IsStep, IsInside, search_begins, search_joined, search_fails, search_linked}
use Rattle.hm_graph.proofs.Ends.{search_ends}
use Rattle.hm_graph.proofs.Owed.{owed, owes_less}
use Rattle.hm_graph.proofs.Shortened.{shortened_refl, step_begins}

-- ---- the root above a vertex

climbs_up : (parents : List ℕ) (n i : ℕ) → Climbs parents i (climb n parents i)
climbs_up parents zero i = here
climbs_up parents (suc n) i = above (climbs_up parents n (up parents i))

climb_stays : (parents : List ℕ) (i : ℕ) → up parents i ≡ i → (n : ℕ) → climb n parents i ≡ i
climb_stays parents i e zero = refl
climb_stays parents i e (suc n) = ap (climb n parents) e ∙ climb_stays parents i e n

climb_ends : (parents : List ℕ) → ((i : ℕ) → up parents i ≤ i) → (n i : ℕ) → i ≤ n → up parents (climb n parents i) ≡ climb n parents i
climb_ends parents falls zero i le = omega (arith, falls i)
climb_ends parents falls (suc n) i le =
    elim (cases_eq (up parents i) i) [
      | inl e ↦ subst (λ r. up parents r ≡ r) (sym (ap (climb n parents) e ∙ climb_stays parents i e n)) e
      | inr ne ↦ climb_ends parents falls n (up parents i) (omega (arith, falls i))
    ]

climb_low : (parents : List ℕ) → ((i : ℕ) → up parents i ≤ i) → (n i : ℕ) → climb n parents i ≤ i
climb_low parents falls zero i = omega arith
climb_low parents falls (suc n) i = omega (arith, falls i, climb_low parents falls n (up parents i))

roots_of : (parents : List ℕ) → ((i : ℕ) → up parents i ≤ i) → (a b : ℕ) → a < length parents → b < length parents
    → (low : ℕ) × ((high : ℕ) × AreRoots parents a b low high)
roots_of parents falls a b one two =
    let n = length parents in
    let r = climb n parents a in
    let s = climb n parents b in
    let v = climbs_up parents n a in
    let w = climbs_up parents n b in
    let rooted = climb_ends parents falls n a (omega arith) in
    let second = climb_ends parents falls n b (omega arith) in
    let low = climb_low parents falls n a in
    let bound = climb_low parents falls n b in
    elim (cases_lt r s) [
      | inl lt ↦ (r, (s, record { climb = inl (v, w); order = omega arith; in_range = omega arith; low_root = rooted; high_root = second }))
      | inr le ↦ (s, (r, record { climb = inr (v, w); order = le; in_range = omega arith; low_root = second; high_root = rooted }))
    ]

-- ---- the search

-- a list is empty, or it has a last item
last_of : {X : Type 0} (xs : List X) → (xs ≡ []) ⊎ ((ys : List X) × ((y : X) × (xs ≡ ys ++ y ∷ [])))
last_of [] = inl refl
last_of (x ∷ xs) =
    elim (last_of xs) [
      | inl e ↦ inr ([], (x, ap (λ l. x ∷ l) e))
      | inr (ys, (y, e)) ↦ inr (x ∷ ys, (y, ap (λ l. x ∷ l) e))
    ]

cases_label : (x y : Option ℕ) → (x ≡ y) ⊎ ¬ (x ≡ y)
cases_label None None = inl refl
cases_label None (Some y) = inr (λ e. cc)
cases_label (Some x) None = inr (λ e. cc)
cases_label (Some x) (Some y) = elim (cases_eq x y) [ inl e ↦ inl (ap Some e) | inr ne ↦ inr (λ e. ne (same_Some _ _ e)) ]

-- each vertex as its own parent, the first of them k
own_parents : ℕ → Graph → List ℕ
own_parents k [] = []
own_parents k (v ∷ vs) = k ∷ own_parents (suc k) vs

own_parents_long : (k : ℕ) (g : Graph) → length (own_parents k g) ≡ length g
unfolding own_parents
own_parents_long k [] = refl
own_parents_long k (v ∷ vs) = ap suc (own_parents_long (suc k) vs)

own_parents_at : (k : ℕ) (g : Graph) (i d : ℕ) → d ≡ k + i → get_or (own_parents k g) i d ≡ d
unfolding own_parents
own_parents_at k [] i d e = refl
own_parents_at k (v ∷ vs) zero d e = omega arith
own_parents_at k (v ∷ vs) (suc i) d e = own_parents_at (suc k) vs i d (omega arith)

module _ (g : Graph) (i j : ℕ) (closed : IsClosed g) (one : i < length g) (two : j < length g) where
  abbrev Found : Type 0
  Found = AreBisimilar g i j ⊎ ¬ (AreAlike g i j)

  abbrev FoundWithin : ℕ → Type 0
  FoundWithin n = (parents : List ℕ) (todo : List (ℕ × ℕ)) → IsSearch g i j parents todo → length todo + owed 0 parents g < n → Found

  -- one pair less, or an answer
  found_on : (n : ℕ) → FoundWithin n → (parents : List ℕ) (todo : List (ℕ × ℕ)) (a b low high : ℕ) → IsStep g i j parents todo a b low high
      → length (todo ++ (a, b) ∷ []) + owed 0 parents g < suc n → Found
  found_on n rest parents todo a b low high s bound =
      elim (cases_eq low high) [
        | inl e ↦ rest parents todo (search_joined s e) (omega (arith, length-append todo ((a, b) ∷ [])))
        | inr ne ↦ elim (cases_label (label_at g low) (label_at g high)) [
          | inl l ↦ elim (cases_eq (length (next_at g low)) (length (next_at g high))) [
            | inl c ↦ rest (set parents high low) (todo ++ zip (next_at g low) (next_at g high))
                (search_linked s closed l c)
                (omega (arith, owes_less g parents todo (a, b) low high (omega (arith, s.in_range, s.search.forest.size)) s.root ne c))
            | inr off ↦ inr (search_fails s (λ w. off w.1))
          ]
          | inr off ↦ inr (search_fails s (λ w. off w.0))
        ]
      ]

  found_within : (n : ℕ) → FoundWithin n
  found_within zero parents todo h bound = absurd (omega arith)
  found_within (suc n) parents todo h bound =
      elim (last_of todo) [
        | inl e ↦ inl (search_ends g i j parents closed one two (subst (IsSearch g i j parents) e h))
        | inr (ys, ((a, b), e)) ↦
            let here : IsSearch g i j parents (ys ++ (a, b) ∷ []) = subst (IsSearch g i j parents) e h in
            let pair = All-head (IsInside g) (a, b) [] (all_right (IsInside g) ys ((a, b) ∷ []) here.inside) in
            let roots = roots_of parents h.forest.falls a b (omega (arith, pair.one, h.forest.size)) (omega (arith, pair.two, h.forest.size)) in
            found_on n (found_within n) parents ys a b roots.0 roots.1.0
            (step_begins h e (shortened_refl parents h.forest.falls) roots.1.1)
            (subst (λ l. length l + owed 0 parents g < suc n) e bound)
      ]

  alike_found : Found
  alike_found =
      let parents = own_parents 0 g in
      found_within (suc (1 + owed 0 parents g)) parents ((i, j) ∷ [])
      (search_begins g i j parents (own_parents_long 0 g) (λ a. own_parents_at 0 g a a (sym (zero-add a))) one two) (omega arith)

  -- what is alike is the same
  pub alike_same : AreAlike g i j → AreBisimilar g i j
  alike_same h = elim alike_found [ inl s ↦ s | inr n ↦ absurd (n h) ]
