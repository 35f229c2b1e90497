-- Forests whose ways are made shorter.
use Rattle.std.proofs.Common.{◌≡◌, ◌≢◌, ◌↔◌, ℕ, ◌<◌, ◌≤◌, List, [], ◌∷◌, ◌++◌, length, get_or, set, refl, sym, ap, subst, ◌∙◌, arith, inl, inr}
use Rattle.std.proofs.lemmas.Bool.{cases_eq}
use Rattle.std.proofs.lemmas.List.{length-set, get_or_default}
use Rattle.std.proofs.lemmas.List.Elements.{All-head}
use Rattle.hm_graph.specs.Same.{Graph, label_at, next_at}
use Rattle.hm_graph.specs.Forests.{up, Climbs, IsShortened, AreRoots}
use Rattle.hm_graph.specs.Forests.Climbs.{here, above}
use Rattle.hm_graph.proofs.Pairs.{zip_refl, zip_trans, all_right}
use Rattle.hm_graph.proofs.Forests.{up_there, up_other}
use Rattle.hm_graph.proofs.Alike.{alike_climbs}
use Rattle.hm_graph.proofs.Search.{IsSearch, IsStep, IsPairAlike, Suits, AreColoured, roots_equal, roots_alike}

pub climbs_both : {parents : List ℕ} {i j k : ℕ} → Climbs parents i j → Climbs parents j k → Climbs parents i k
climbs_both here w = w
climbs_both (above v) w = above (climbs_both v w)

-- a way by new parents is a way by old ones
pub climbs_old : {old new : List ℕ} {i r : ℕ} → IsShortened old new → Climbs new i r → Climbs old i r
climbs_old h here = here
climbs_old {old} {new} {i} h (above w) = climbs_both (h.climbs i) (climbs_old h w)

pub shortened_refl : (parents : List ℕ) → ((i : ℕ) → up parents i ≤ i) → IsShortened parents parents
shortened_refl parents falls = record { size = refl; falls = falls; climbs = λ i. above here; back = λ f h. h; roots = λ i. (λ e. e, λ e. e) }

pub shortened_trans : (one two three : List ℕ) → IsShortened one two → IsShortened two three → IsShortened one three
shortened_trans one two three a b = record {
  size = b.size ∙ a.size;
  falls = b.falls;
  climbs = λ i. climbs_old a (b.climbs i);
  back = λ f h. a.back f (b.back f h);
  roots = λ i. (λ e. (a.roots i).0 ((b.roots i).0 e), λ e. (b.roots i).1 ((a.roots i).1 e));
}

-- the parent of a vertex that is no root becomes its parent's parent
module _ (parents : List ℕ) (falls : (i : ℕ) → up parents i ≤ i) (a : ℕ) (lt : a < length parents) (off : up parents a ≢ a) where
  halved_at : (P : ℕ → ℕ → Type 0) → P a (up parents (up parents a)) → ((i : ℕ) → i ≢ a → P i (up parents i)) → (i : ℕ)
      → P i (up (set parents a (up parents (up parents a))) i)
  halved_at P new old i =
      elim (cases_eq i a) [
        | inl e ↦ subst (λ k. P k (up (set parents a (up parents (up parents a))) k)) (sym e)
            (subst (P a) (sym (up_there parents a (up parents (up parents a)) lt)) new)
        | inr ne ↦ subst (P i) (sym (up_other parents a (up parents (up parents a)) lt i ne)) (old i ne)
      ]

  pub halved : IsShortened parents (set parents a (up parents (up parents a)))
  halved = record {
    size = length-set parents a (up parents (up parents a));
    falls = halved_at (λ i j. j ≤ i) (omega (arith, falls a, falls (up parents a))) (λ i ne. falls i);
    climbs = halved_at (Climbs parents) (above (above here)) (λ i ne. above here);
    back = λ f h i. elim (cases_eq i a) [
      | inl e ↦ subst (λ k. f k ≡ f (up parents k)) (sym e)
          (h a ∙ ap f (up_there parents a (up parents (up parents a)) lt)
          ∙ sym (h (up parents a) ∙ ap f (up_other parents a (up parents (up parents a)) lt (up parents a) off)))
      | inr ne ↦ h i ∙ ap f (up_other parents a (up parents (up parents a)) lt i ne)
    ];
    roots = halved_at (λ i j. (j ≡ i) ↔ (up parents i ≡ i)) (λ e. absurd (lower e), λ e. absurd (off e)) (λ i ne. (λ e. e, λ e. e));
  }
    where
      lower : up parents (up parents a) ≡ a → ⊥
      lower e = off (omega (arith, falls a, falls (up parents a)))

-- ---- a search goes on over the shorter ways

module _ (g : Graph) (i j : ℕ) (old new : List ℕ) (todo : List (ℕ × ℕ)) (h : IsSearch g i j old todo) (s : IsShortened old new) where
  suits_old : (f : ℕ → ℕ) → Suits new todo f → Suits old todo f
  suits_old f u = record { respects = record { each = s.back f u.respects.each }; meets = u.meets }

  labels_climb : {a r : ℕ} → Climbs old a r → label_at g a ≡ label_at g r
  labels_climb here = refl
  labels_climb {a} (above w) = h.labels a ∙ labels_climb w

  next_climb : (f : ℕ → ℕ) → Suits old todo f → {a r : ℕ} → Climbs old a r → AreColoured f (next_at g a) (next_at g r)
  next_climb f u {a} here = zip_refl (λ a b. f a ≡ f b) (λ b. refl) (next_at g a)
  next_climb f u {a} {r} (above w) =
      zip_trans (λ a b. f a ≡ f b) (λ x y z p q. p ∙ q) (next_at g a) (next_at g (up old a)) (next_at g r) (h.next f u a) (next_climb f u w)

  pub search_shortened : IsSearch g i j new todo
  search_shortened = record {
    forest = record { size = s.size ∙ h.forest.size; falls = s.falls };
    inside = h.inside;
    labels = λ a. labels_climb (s.climbs a);
    next = λ f u a. next_climb f (suits_old f u) (s.climbs a);
    start = λ f u. h.start f (suits_old f u);
    parents_alike = λ w a. alike_climbs g (h.parents_alike w) (s.climbs a);
    todo_alike = h.todo_alike;
  }

-- the next pair is compared by its roots, over shorter ways
pub step_begins : {g : Graph} {i j : ℕ} {old new : List ℕ} {all todo : List (ℕ × ℕ)} {a b low high : ℕ} → IsSearch g i j old all
    → all ≡ todo ++ (a, b) ∷ [] → IsShortened old new → AreRoots old a b low high → IsStep g i j new todo a b low high
step_begins {g} {i} {j} {old} {new} {all} {todo} {a} {b} {low} {high} h is s r =
    let here : IsSearch g i j old (todo ++ (a, b) ∷ []) = subst (IsSearch g i j old) is h in
    record {
      search = search_shortened g i j old new (todo ++ (a, b) ∷ []) here s;
      meets = λ f u e. roots_equal old a b low high r f (record { each = s.back f u.each }) e;
      needed = λ w. roots_alike old a b low high g r (here.parents_alike w)
          (All-head (IsPairAlike g) (a, b) [] (all_right (IsPairAlike g) todo ((a, b) ∷ []) (here.todo_alike w)));
      order = r.order;
      in_range = omega (arith, r.in_range, here.forest.size);
      root = (s.roots high).1 r.high_root;
    }

-- ---- what the code reads and writes

pub read_up : (parents : List ℕ) (i x : ℕ) → i < length parents → x ≡ get_or parents i x → x ≡ up parents i
read_up parents i x lt e = e ∙ get_or_default parents i x i lt

-- one step up, where a is the parent of i, and v the parent of a
module _ (old parents : List ℕ) (start i a v : ℕ) (s : IsShortened old parents) (lt : i < length parents) (is_a : a ≡ up parents i)
    (is_v : v ≡ up parents a) (ne : a ≢ i) where
  off : up parents i ≢ i
  off e = ne (is_a ∙ e)

  pub a_below : a < i
  a_below = let f = s.falls i in let n = ne in omega (arith, is_a)

  pub v_below : v < i
  v_below = omega (arith, a_below, s.falls a, is_v)

  pub step_shortened : IsShortened old (set parents i v)
  step_shortened = subst (λ v. IsShortened old (set parents i v)) (sym (is_v ∙ ap (up parents) is_a))
      (shortened_trans old parents (set parents i (up parents (up parents i))) s (halved parents s.falls i lt off))

  pub step_climbs : Climbs old start i → Climbs old start v
  step_climbs w = climbs_both w (climbs_old s (above (above (subst (λ k. Climbs parents k v) (is_v ∙ ap (up parents) is_a) here))))
