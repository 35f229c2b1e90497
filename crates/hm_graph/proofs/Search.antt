-- What holds of the forest and of the pairs still to be compared, as the vertices of a graph are compared.
use Rattle.std.proofs.Common.{◌≡◌, ℕ, ◌<◌, ◌≤◌, List, [], ◌∷◌, ◌++◌, length, get_or, set, slice_get, Option, Some, None, All, refl, sym, ap, subst, ◌∙◌, arith, inl, inr}
use Rattle.std.specs.List.{AllZip, zip}
use Rattle.std.specs.Option.{option_map}
use Rattle.std.proofs.lemmas.Bool.{cases_eq}
use Rattle.std.proofs.lemmas.List.{length-set}
use Rattle.std.proofs.lemmas.List.Elements.{All-nil, All-cons, All-head, All-append, All-push, All-get_or}
use Rattle.std.proofs.lemmas.Option.{get_or_from_slice_get, slice_get_within, slice_get_read}
use Rattle.hm_graph.specs.declared.sameness.Vertex.{Vertex}
use Rattle.hm_graph.specs.Same.{Graph, IsClosed, label_at, next_at, edges_of, AreAlike}
use Rattle.hm_graph.specs.Forests.{up, AreRoots}
use Rattle.hm_graph.proofs.Pairs.{zip_refl, zip_sym, zip_of_pairs, pairs_of_zip, zip_all, all_left, all_right}
use Rattle.hm_graph.proofs.Forests.{IsForest, Respects, climbs_equal, up_there, up_other, respects_before, respects_link, linked_falls}
use Rattle.hm_graph.proofs.Alike.{alike_refl, alike_sym, alike_trans, alike_next, alike_climbs, alike_label, alike_count}

-- equal colours, place by place
abbrev pub AreColoured : (ℕ → ℕ) → List ℕ → List ℕ → Type 0
AreColoured f xs ys = AllZip (λ a b. f a ≡ f b) xs ys

abbrev pub IsPairOf : (ℕ → ℕ) → ℕ × ℕ → Type 0
IsPairOf f p = f p.0 ≡ f p.1

abbrev pub IsPairAlike : Graph → ℕ × ℕ → Type 0
IsPairAlike g p = AreAlike g p.0 p.1

-- a colouring that the forest and the pairs still allow
pub record Suits (parents : List ℕ) (todo : List (ℕ × ℕ)) (f : ℕ → ℕ) : Type 0 where
  pub respects : Respects parents f
  pub meets : All (IsPairOf f) todo

pub record IsInside (g : Graph) (p : ℕ × ℕ) : Type 0 where
  pub one : p.0 < length g
  pub two : p.1 < length g

pub closed_at : (g : Graph) (i : ℕ) → IsClosed g → All (λ k. k < length g) (next_at g i)
closed_at g i h = go (slice_get g i) refl
  where
    go : (v : Option Vertex) → slice_get g i ≡ v → All (λ k. k < length g) (edges_of v)
    go None e = All-nil (λ k. k < length g)
    go (Some v) e =
        let Inside : Vertex → Type 0 = λ v. All (λ k. k < length g) v.next.items in
        subst Inside (get_or_from_slice_get g i v v e) (All-get_or Inside g i v (slice_get_within g i v e) h)

-- the search for whether i and j are the same
pub record IsSearch (g : Graph) (i j : ℕ) (parents : List ℕ) (todo : List (ℕ × ℕ)) : Type 0 where
  pub forest : IsForest (length g) parents
  pub inside : All (IsInside g) todo
  -- each allowed colouring gives equal colours to what the edges of a vertex and of its parent lead to, and to i and j
  pub labels : (a : ℕ) → label_at g a ≡ label_at g (up parents a)
  pub next : (f : ℕ → ℕ) → Suits parents todo f → (a : ℕ) → AreColoured f (next_at g a) (next_at g (up parents a))
  pub start : (f : ℕ → ℕ) → Suits parents todo f → f i ≡ f j
  -- if i and j are alike, each vertex is alike its parent, and each pair is alike
  pub parents_alike : AreAlike g i j → (a : ℕ) → AreAlike g a (up parents a)
  pub todo_alike : AreAlike g i j → All (IsPairAlike g) todo

-- the roots above two vertices
module _ (parents : List ℕ) (a b low high : ℕ) where
  pub roots_equal : AreRoots parents a b low high → (f : ℕ → ℕ) → Respects parents f → f low ≡ f high → f a ≡ f b
  roots_equal r f h e =
      elim (r.climb) [
        | inl w ↦ climbs_equal f h w.0 ∙ e ∙ sym (climbs_equal f h w.1)
        | inr w ↦ climbs_equal f h w.0 ∙ sym e ∙ sym (climbs_equal f h w.1)
      ]

  pub roots_alike : (g : Graph) → AreRoots parents a b low high → ((c : ℕ) → AreAlike g c (up parents c)) → AreAlike g a b → AreAlike g low high
  roots_alike g r h e =
      elim (r.climb) [
        | inl w ↦ alike_trans g low a high (alike_sym g a low (alike_climbs g h w.0)) (alike_trans g a b high e (alike_climbs g h w.1))
        | inr w ↦
            alike_trans g low b high (alike_sym g b low (alike_climbs g h w.1)) (alike_trans g b a high (alike_sym g a b e) (alike_climbs g h w.0))
      ]

-- a pair is compared by two roots
pub record IsStep (g : Graph) (i j : ℕ) (parents : List ℕ) (todo : List (ℕ × ℕ)) (a b low high : ℕ) : Type 0 where
  pub search : IsSearch g i j parents (todo ++ (a, b) ∷ [])
  pub meets : (f : ℕ → ℕ) → Respects parents f → f low ≡ f high → f a ≡ f b
  pub needed : AreAlike g i j → AreAlike g low high
  pub order : low ≤ high
  pub in_range : high < length g
  pub root : up parents high ≡ high

module _ (g : Graph) (i j : ℕ) where
  pub search_begins : (parents : List ℕ) → length parents ≡ length g → ((a : ℕ) → up parents a ≡ a) → i < length g → j < length g
      → IsSearch g i j parents ((i, j) ∷ [])
  search_begins parents size itself one two = record {
    forest = record { size = size; falls = λ a. omega (arith, itself a) };
    inside = All-cons (IsInside g) (i, j) [] (record { one = one; two = two }) (All-nil (IsInside g));
    labels = λ a. ap (label_at g) (sym (itself a));
    next = λ f h a. subst (λ b. AreColoured f (next_at g a) (next_at g b)) (sym (itself a)) (zip_refl (λ a b. f a ≡ f b) (λ b. refl) (next_at g a));
    start = λ f h. All-head (IsPairOf f) (i, j) [] h.meets;
    parents_alike = λ h a. subst (λ b. AreAlike g a b) (sym (itself a)) (alike_refl g a);
    todo_alike = λ h. All-cons (IsPairAlike g) (i, j) [] h (All-nil (IsPairAlike g));
  }

module _ {g : Graph} {i j : ℕ} {parents : List ℕ} {todo : List (ℕ × ℕ)} {a b low high : ℕ} (s : IsStep g i j parents todo a b low high) where
  suits_more : (f : ℕ → ℕ) → Suits parents todo f → f low ≡ f high → Suits parents (todo ++ (a, b) ∷ []) f
  suits_more f u e = record { respects = u.respects; meets = All-push (IsPairOf f) todo (a, b) u.meets (s.meets f u.respects e) }

  -- the pair is joined already
  pub search_joined : low ≡ high → IsSearch g i j parents todo
  search_joined e = record {
    forest = s.search.forest;
    inside = all_left (IsInside g) todo ((a, b) ∷ []) s.search.inside;
    labels = s.search.labels;
    next = λ f u. s.search.next f (suits_more f u (ap f e));
    start = λ f u. s.search.start f (suits_more f u (ap f e));
    parents_alike = s.search.parents_alike;
    todo_alike = λ w. all_left (IsPairAlike g) todo ((a, b) ∷ []) (s.search.todo_alike w);
  }

  -- the two roots differ: the two vertices aren't alike
  pub search_fails : ¬ ((label_at g low ≡ label_at g high) × (length (next_at g low) ≡ length (next_at g high))) → ¬ (AreAlike g i j)
  search_fails off h = let w = s.needed h in off (alike_label g low high w, alike_count g low high w)

  -- they don't: the one is put below the other
  module _ (closed : IsClosed g) (label : label_at g low ≡ label_at g high) (count : length (next_at g low) ≡ length (next_at g high)) where
    within : high < length parents
    within = omega (arith, s.search.forest.size, s.in_range)

    suits_before : (f : ℕ → ℕ) → Suits (set parents high low) (todo ++ zip (next_at g low) (next_at g high)) f
        → Suits parents (todo ++ (a, b) ∷ []) f
    suits_before f u = suits_more f
        (record {
          respects = respects_before parents high low within s.root f u.respects;
          meets = all_left (IsPairOf f) todo (zip (next_at g low) (next_at g high)) u.meets;
        })
        (sym (respects_link parents high low within s.root f u.respects))

    same_next : (f : ℕ → ℕ) → Suits (set parents high low) (todo ++ zip (next_at g low) (next_at g high)) f
        → AreColoured f (next_at g low) (next_at g high)
    same_next f u = zip_of_pairs (λ a b. f a ≡ f b) (next_at g low) (next_at g high) count
        (all_right (IsPairOf f) todo (zip (next_at g low) (next_at g high)) u.meets)

    -- what holds of a vertex and its parent, and of the two roots, holds of each vertex and its new parent
    linked_all : (R : ℕ → ℕ → Type 0) → ((c : ℕ) → R c (up parents c)) → R high low → (c : ℕ) → R c (up (set parents high low) c)
    linked_all R old new c =
        elim (cases_eq c high) [
          | inl e ↦ subst (λ k. R k (up (set parents high low) k)) (sym e) (subst (R high) (sym (up_there parents high low within)) new)
          | inr ne ↦ subst (R c) (sym (up_other parents high low within c ne)) (old c)
        ]

    pub search_linked : IsSearch g i j (set parents high low) (todo ++ zip (next_at g low) (next_at g high))
    search_linked = record {
      forest = record {
        size = length-set parents high low ∙ s.search.forest.size;
        falls = linked_falls parents high low within s.root s.order s.search.forest.falls;
      };
      inside = All-append (IsInside g) todo (zip (next_at g low) (next_at g high)) (all_left (IsInside g) todo ((a, b) ∷ []) s.search.inside)
          (zip_all (λ k. k < length g) (IsInside g) (λ x y p q. record { one = p; two = q }) (next_at g low) (next_at g high)
          (closed_at g low closed) (closed_at g high closed));
      labels = linked_all (λ c d. label_at g c ≡ label_at g d) s.search.labels (sym label);
      next = λ f u. linked_all (λ c d. AreColoured f (next_at g c) (next_at g d)) (s.search.next f (suits_before f u))
          (zip_sym (λ a b. f a ≡ f b) (λ a b e. sym e) (next_at g low) (next_at g high) (same_next f u));
      start = λ f u. s.search.start f (suits_before f u);
      parents_alike = λ w. linked_all (AreAlike g) (s.search.parents_alike w) (alike_sym g low high (s.needed w));
      todo_alike = λ w. All-append (IsPairAlike g) todo (zip (next_at g low) (next_at g high))
          (all_left (IsPairAlike g) todo ((a, b) ∷ []) (s.search.todo_alike w))
          (pairs_of_zip (AreAlike g) (next_at g low) (next_at g high) (alike_next g low high (s.needed w)));
    }

-- ---- what the code reads

pub label_read : (g : Graph) (i : ℕ) (v : Vertex) → i < length g → v ≡ get_or g i v → label_at g i ≡ Some v.label
label_read g i v lt e = ap (option_map (λ (v : Vertex). v.label)) (slice_get_read g (length g) i v refl lt e)

pub next_read : (g : Graph) (i : ℕ) (v : Vertex) → i < length g → v ≡ get_or g i v → next_at g i ≡ v.next.items
next_read g i v lt e = ap edges_of (slice_get_read g (length g) i v refl lt e)
