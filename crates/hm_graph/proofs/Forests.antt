-- Forests: roots, and a root put below another one.
use Rattle.std.proofs.Common.{◌≡◌, ◌≢◌, ℕ, zero, suc, ◌<◌, ◌≤◌, List, length, set, refl, sym, ap, subst, ◌∙◌, arith, ◌⊎◌, inl, inr}
use Rattle.std.proofs.lemmas.Bool.{cases_eq, cases_lt}
use Rattle.std.proofs.lemmas.List.{get_or-set_same, get_or-set_other}
use Rattle.std.proofs.Math.ListN.{get_or-eq_default}
use Rattle.hm_graph.specs.Forests.{up, Climbs}
use Rattle.hm_graph.specs.Forests.Climbs.{here, above}

-- parents stand before their children
pub record IsForest (count : ℕ) (parents : List ℕ) : Type 0 where
  pub size : length parents ≡ count
  pub falls : (i : ℕ) → up parents i ≤ i

-- a colouring gives each vertex the colour of its parent
pub record Respects (parents : List ℕ) (f : ℕ → ℕ) : Type 0 where
  pub each : (i : ℕ) → f i ≡ f (up parents i)

pub climbs_equal : {parents : List ℕ} {i r : ℕ} (f : ℕ → ℕ) → Respects parents f → Climbs parents i r → f i ≡ f r
climbs_equal f h here = refl
climbs_equal {parents} {i} f h (above way) = h.each i ∙ climbs_equal f h way

pub climbs_low : {parents : List ℕ} {i r : ℕ} → ((i : ℕ) → up parents i ≤ i) → Climbs parents i r → r ≤ i
climbs_low h here = omega arith
climbs_low {parents} {i} h (above way) = omega (arith, h i, climbs_low h way)

-- ---- a root put below another vertex

module _ (parents : List ℕ) (a b : ℕ) (lt : a < length parents) where
  pub up_there : up (set parents a b) a ≡ b
  up_there = get_or-set_same parents a b a lt

  pub up_other : (i : ℕ) → i ≢ a → up (set parents a b) i ≡ up parents i
  up_other i ne = get_or-set_other parents a i b i ne

  module _ (root : up parents a ≡ a) where
    pub respects_before : (f : ℕ → ℕ) → Respects (set parents a b) f → Respects parents f
    respects_before f h = record { each = λ i. go i (cases_eq i a) }
      where
        go : (i : ℕ) → (i ≡ a) ⊎ (i ≡ a → ⊥) → f i ≡ f (up parents i)
        go i (inl e) = ap f (e ∙ sym (ap (up parents) e ∙ root))
        go i (inr ne) = h.each i ∙ ap f (up_other i ne)

    pub respects_link : (f : ℕ → ℕ) → Respects (set parents a b) f → f a ≡ f b
    respects_link f h = h.each a ∙ ap f up_there

    pub linked_falls : b ≤ a → ((i : ℕ) → up parents i ≤ i) → (i : ℕ) → up (set parents a b) i ≤ i
    linked_falls le h i = go (cases_eq i a)
      where
        go : (i ≡ a) ⊎ (i ≡ a → ⊥) → up (set parents a b) i ≤ i
        go (inl e) = subst (λ n. up (set parents a b) n ≤ n) (sym e) (subst (λ n. n ≤ a) (sym up_there) le)
        go (inr ne) = subst (λ n. n ≤ i) (sym (up_other i ne)) (h i)

-- ---- the root of each vertex, as a colouring

abbrev pub climb : ℕ → List ℕ → ℕ → ℕ
climb zero parents i = i
climb (suc n) parents i = climb n parents (up parents i)

climb_once : (parents : List ℕ) → ((i : ℕ) → up parents i ≤ i) → (n i : ℕ) → i ≤ n → climb n parents i ≡ climb n parents (up parents i)
climb_once parents falls zero i le = omega (arith, falls i)
climb_once parents falls (suc n) i le =
    elim (cases_eq (up parents i) i) [
      | inl e ↦ sym (ap (λ k. climb n parents (up parents k)) e)
      | inr ne ↦ climb_once parents falls n (up parents i) (omega (arith, falls i))
    ]

pub climb_respects : (count : ℕ) (parents : List ℕ) → IsForest count parents → Respects parents (climb count parents)
climb_respects count parents h = record { each = λ i. go i (cases_lt i count) }
  where
    go : (i : ℕ) → (i < count) ⊎ (count ≤ i) → climb count parents i ≡ climb count parents (up parents i)
    go i (inl lt) = climb_once parents h.falls count i (omega arith)
    go i (inr le) = ap (climb count parents) (sym (get_or-eq_default parents i (omega (arith, h.size))))

-- what is equal at each vertex and its parent is equal at each vertex and its root
pub along : {X : Type 0} (parents : List ℕ) (F : ℕ → X) → ((i : ℕ) → F i ≡ F (up parents i)) → (n i : ℕ) → F i ≡ F (climb n parents i)
along parents F h zero i = refl
along parents F h (suc n) i = h i ∙ along parents F h n (up parents i)
