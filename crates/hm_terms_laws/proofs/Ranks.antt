-- Where no definition is in a bad cycle, each call falls: in the number of definitions that are reached, or, where it isn't
-- inside a sequence, in the depth of the tree, or in the number of those that are reached by calls that are inside neither.
use Rattle.std.proofs.Common.{◌≡◌, ◌⊎◌, ℕ, ◌||◌, Bool, true, false, Some, refl, subst, inl, inr}
use Rattle.std.specs.Ordering.{eq_by_cmp}
use Rattle.hm_tree.specs.Names.{Name, name_cmp}
use Rattle.hm_schema.proofs.NamesOf.{tie_one}
use Rattle.hm_terms.specs.Lenses.{Lens, Definitions, body_of}
use Rattle.hm_terms.specs.Calls.{Way, one_call, more_calls, IsInBadCycle}
use Rattle.hm_terms_laws.specs.Falling.{Falls, AllFall}
use Rattle.hm_terms_laws.proofs.CallLists.{IsIn, tied}
use Rattle.hm_terms_laws.proofs.Closures.{Closure, closure, number, number_le, number_lt}
use Rattle.hm_terms_laws.proofs.Callees.{HasCall, defined, next, open_next, called, calls_next, called_open, calls_open, next_known, open_known, has_body}

-- a way of calls from one definition to another
record HasWay (ds : Definitions) (n k : Name) : Type 0 where
  sequence : Bool
  children : Bool
  way : Way ds n k sequence children

module _ (ds : Definitions) where
  -- a definition is another one, or reaches it; by calls inside neither
  Reaches : Name → Name → Type 0
  Reaches k n = (n ≡ k) ⊎ HasWay ds n k

  OpenReaches : Name → Name → Type 0
  OpenReaches k n = (n ≡ k) ⊎ Way ds n k false false

  back : (k n m : Name) → IsIn m (next ds n) → Reaches k m → Reaches k n
  unfolding Reaches
  back k n m h (inl e) =
      let x = called ds n m h in
      inr (record { sequence = x.0; children = x.1; way = subst (λ k. Way ds n k x.0 x.1) e (one_call x.2.is x.2.calls) })
  back k n m h (inr w) =
      let x = called ds n m h in
      inr (record { sequence = x.0 || w.sequence; children = x.1 || w.children; way = more_calls x.2.is x.2.calls w.way })

  open_back : (k n m : Name) → IsIn m (open_next ds n) → OpenReaches k m → OpenReaches k n
  unfolding OpenReaches
  open_back k n m h (inl e) = let x = called_open ds n m h in inr (subst (λ k. Way ds n k false false) e (one_call x.is x.calls))
  open_back k n m h (inr w) = let x = called_open ds n m h in inr (more_calls x.is x.calls w)

  is_it : Name → Name → Bool
  is_it k n = eq_by_cmp name_cmp n k

  to : (k : Name) → Closure (defined ds) (next ds) (next_known ds) (Reaches k) (back k) (is_it k)
  unfolding is_it Reaches
  to k = closure (defined ds) (next ds) (next_known ds) (Reaches k) (back k) (is_it k) (λ n e. inl (tie_one n k e))

  open_to : (k : Name) → Closure (defined ds) (open_next ds) (open_known ds) (OpenReaches k) (open_back k) (is_it k)
  unfolding is_it OpenReaches
  open_to k = closure (defined ds) (open_next ds) (open_known ds) (OpenReaches k) (open_back k) (is_it k) (λ n e. inl (tie_one n k e))

  -- how many definitions are reached, and how many by calls inside neither
  pub steps : Name → ℕ
  steps n = number (λ k. (to k).set n) (defined ds)

  pub rank : Name → ℕ
  rank n = number (λ k. (open_to k).set n) (defined ds)

  itself : (n : Name) → (to n).set n ≡ true
  unfolding is_it
  itself n = (to n).more n (tied n)

  open_itself : (n : Name) → (open_to n).set n ≡ true
  unfolding is_it
  open_itself n = (open_to n).more n (tied n)

  not_true : (b : Bool) → (b ≡ true → ⊥) → b ≡ false
  not_true true f = absurd (f refl)
  not_true false f = refl

  module _ (good : (n : Name) → ¬ (IsInBadCycle ds n)) where
    -- a call inside a sequence doesn't come back, nor does one that is inside neither by such calls
    no_return : (n m : Name) (c : Bool) → HasCall ds n true c m → (to n).set m ≡ false
    unfolding Reaches
    no_return n m c h = not_true ((to n).set m) (λ e. elim ((to n).sound m e) [
      | inl s ↦ good n (record { sequence = true; children = c; way = subst (λ k. Way ds n k true c) s (one_call h.is h.calls); bad = inl refl })
      | inr w ↦ good n (record { sequence = true; children = c || w.children; way = more_calls h.is h.calls w.way; bad = inl refl })
    ])

    open_no_return : (n m : Name) → HasCall ds n false false m → (open_to n).set m ≡ false
    unfolding OpenReaches
    open_no_return n m h = not_true ((open_to n).set m) (λ e. elim ((open_to n).sound m e) [
      | inl s ↦ good n (record { sequence = false; children = false; way = subst (λ k. Way ds n k false false) s (one_call h.is h.calls); bad = inr refl })
      | inr w ↦ good n (record { sequence = false; children = false; way = more_calls h.is h.calls w; bad = inr refl })
    ])

    falls : (n m : Name) (s c : Bool) → HasCall ds n s c m → Falls steps rank (steps n) (rank n) s c m
    unfolding steps rank
    falls n m true c h = number_lt (λ k. (to k).set m) (λ k. (to k).set n) (λ k e. (to k).closed n m (calls_next ds n m true c h) e) n
        (no_return n m c h) (itself n) (has_body ds n h.body h.is)
    falls n m false true h = number_le (λ k. (to k).set m) (λ k. (to k).set n) (λ k e. (to k).closed n m (calls_next ds n m false true h) e) (defined ds)
    falls n m false false h = (
      number_le (λ k. (to k).set m) (λ k. (to k).set n) (λ k e. (to k).closed n m (calls_next ds n m false false h) e) (defined ds),
      number_lt (λ k. (open_to k).set m) (λ k. (open_to k).set n) (λ k e. (open_to k).closed n m (calls_open ds n m h) e) n
          (open_no_return n m h) (open_itself n) (has_body ds n h.body h.is),
    )

    -- the calls of a body fall
    pub body_falls : (n : Name) (l : Lens) → body_of ds n ≡ Some l → AllFall steps rank (steps n) (rank n) false false l
    body_falls n l e = record { each = λ s c m h. falls n m s c (record { body = l; is = e; calls = h }) }
