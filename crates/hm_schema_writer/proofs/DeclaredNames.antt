-- The names of nodes that are declared: all but `Empty`, which can only be the last one.
use Rattle.std.proofs.Common.{◌≡◌, ℕ, zero, suc, ◌≤◌, Bool, true, false, cond, List, [], ◌∷◌, ◌++◌, length, Some, refl, sym, ap, ◌∙◌, arith, slice_get}
use Rattle.std.specs.Prelude.{codes}
use Rattle.std.specs.Str.{bytes_eq}
use Rattle.std.proofs.lemmas.Bool.{true≢false}
use Rattle.std.proofs.lemmas.Option.{same_Some, slice_get_within}
use lib.Pointwise.{bytes_decides}
use Rattle.hm_tree.specs.Names.{Name}
use Rattle.hm_schema_writer.specs.WrittenNodes.{declared_names}
use Rattle.hm_schema_writer.proofs.WrittenText.{not_empty}

abbrev pub EmptyIsLast : List Name → Type 0
EmptyIsLast ws = (i : ℕ) → slice_get ws i ≡ Some (codes "Empty") → suc i ≡ length ws

-- one name more in front of the others
behind_first : (w : Name) (ws : List Name) → EmptyIsLast (w ∷ ws) → EmptyIsLast ws
behind_first w ws h i is = let l = h (suc i) is in omega arith

is_empty : (w : Name) → bytes_eq w (codes "Empty") ≡ true → w ≡ codes "Empty"
is_empty w e = (bytes_decides w (codes "Empty")).0 e

differs : (w : Name) → bytes_eq w (codes "Empty") ≡ false → ¬ (w ≡ codes "Empty")
differs w e same = true≢false (sym ((bytes_decides w (codes "Empty")).1 same) ∙ e)

pub declared_at : (ws : List Name) (k : ℕ) (w : Name) → slice_get (declared_names ws) k ≡ Some w → (slice_get ws k ≡ Some w) × ¬ (w ≡ codes "Empty")
declared_at [] k w is = let f : ⊥ = cc in absurd f
declared_at (v ∷ ws) k w is = go (bytes_eq v (codes "Empty")) refl (declared_at ws) k is
  where
    go : (b : Bool) → bytes_eq v (codes "Empty") ≡ b
        → ((k : ℕ) (w : Name) → slice_get (declared_names ws) k ≡ Some w → (slice_get ws k ≡ Some w) × ¬ (w ≡ codes "Empty")) → (k : ℕ)
        → slice_get (cond b [] (v ∷ declared_names ws)) k ≡ Some w → (slice_get (v ∷ ws) k ≡ Some w) × ¬ (w ≡ codes "Empty")
    go true e more k is = let f : ⊥ = cc in absurd f
    go false e more zero is = (is, λ w_is. differs v e (same_Some v w is ∙ w_is))
    go false e more (suc k) is = more k w is

pub at_declared : (ws : List Name) → EmptyIsLast ws → (k : ℕ) (w : Name) → slice_get ws k ≡ Some w → ¬ (w ≡ codes "Empty")
    → slice_get (declared_names ws) k ≡ Some w
at_declared [] last k w is differ = let f : ⊥ = cc in absurd f
at_declared (v ∷ ws) last k w is differ =
    go (bytes_eq v (codes "Empty")) refl (at_declared ws (behind_first v ws last)) k is
  where
    go : (b : Bool) → bytes_eq v (codes "Empty") ≡ b
        → ((k : ℕ) (w : Name) → slice_get ws k ≡ Some w → ¬ (w ≡ codes "Empty") → slice_get (declared_names ws) k ≡ Some w) → (k : ℕ)
        → slice_get (v ∷ ws) k ≡ Some w → slice_get (cond b [] (v ∷ declared_names ws)) k ≡ Some w
    go true e more zero is = absurd (differ (sym (same_Some v w is) ∙ is_empty v e))
    go true e more (suc k) is =
        let l = last 0 (ap Some (is_empty v e)) in
        let within = slice_get_within ws k w is in
        absurd (omega arith)
    go false e more zero is = is
    go false e more (suc k) is = more k w is differ

-- as many as stand in front of `Empty`
pub declared_long : (ws : List Name) → EmptyIsLast ws → (i : ℕ) → slice_get ws i ≡ Some (codes "Empty") → length (declared_names ws) ≡ i
declared_long [] last i is = let f : ⊥ = cc in absurd f
declared_long (v ∷ ws) last i is = go (bytes_eq v (codes "Empty")) refl (declared_long ws (behind_first v ws last)) i is
  where
    go : (b : Bool) → bytes_eq v (codes "Empty") ≡ b
        → ((i : ℕ) → slice_get ws i ≡ Some (codes "Empty") → length (declared_names ws) ≡ i) → (i : ℕ) → slice_get (v ∷ ws) i ≡ Some (codes "Empty")
        → length (cond b [] (v ∷ declared_names ws)) ≡ i
    go true e more zero is = refl
    go true e more (suc i) is =
        let l = last 0 (ap Some (is_empty v e)) in
        let within = slice_get_within ws i (codes "Empty") is in
        absurd (omega arith)
    go false e more zero is = absurd (differs v e (same_Some v (codes "Empty") is))
    go false e more (suc i) is = ap suc (more i is)

pub declared_all : (ws : List Name) → EmptyIsLast ws → (i : ℕ) → slice_get ws i ≡ Some (codes "Empty") → ws ≡ declared_names ws ++ codes "Empty" ∷ []
declared_all [] last i is = let f : ⊥ = cc in absurd f
declared_all (v ∷ ws) last i is = go (bytes_eq v (codes "Empty")) refl (declared_all ws (behind_first v ws last)) i is
  where
    go : (b : Bool) → bytes_eq v (codes "Empty") ≡ b
        → ((i : ℕ) → slice_get ws i ≡ Some (codes "Empty") → ws ≡ declared_names ws ++ codes "Empty" ∷ []) → (i : ℕ)
        → slice_get (v ∷ ws) i ≡ Some (codes "Empty") → v ∷ ws ≡ cond b [] (v ∷ declared_names ws) ++ codes "Empty" ∷ []
    go true e more i at = λ j. is_empty v e j ∷ alone ws (last 0 (ap Some (is_empty v e))) j
      where
        alone : (ws : List Name) → 1 ≡ length (v ∷ ws) → ws ≡ []
        alone [] l = refl
        alone (w ∷ ws) l = absurd (omega (arith, l))
    go false e more zero at = absurd (differs v e (same_Some v (codes "Empty") at))
    go false e more (suc i) at = ap (λ z. v ∷ z) (more i at)

-- all of them where `Empty` isn't there
pub declared_short : (ws : List Name) → ((i : ℕ) → ¬ (slice_get ws i ≡ Some (codes "Empty"))) → declared_names ws ≡ ws
declared_short [] none = refl
declared_short (v ∷ ws) none =
    ap (λ b. cond b [] (v ∷ declared_names ws)) (not_empty v (λ same. none 0 (ap Some same)))
    ∙ ap (λ z. v ∷ z) (declared_short ws (λ i. none (suc i)))

pub declared_at_most : (ws : List Name) → length (declared_names ws) ≤ length ws
declared_at_most [] = omega arith
declared_at_most (v ∷ ws) = go (bytes_eq v (codes "Empty")) (declared_at_most ws)
  where
    go : (b : Bool) → length (declared_names ws) ≤ length ws → length (cond b [] (v ∷ declared_names ws)) ≤ length (v ∷ ws)
    go true l = omega arith
    go false l = omega arith
