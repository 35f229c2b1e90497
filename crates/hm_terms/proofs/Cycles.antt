-- Bad cycles, tried on definitions that call themselves.
use Rattle.std.proofs.Common.{◌≡◌, Bool, true, false, inl, inr, Some, refl, sym, ap, subst, ◌∙◌}
use Rattle.std.proofs.lemmas.Option.{same_Some}
use mathlib.Core.Bool.{true≢false}
use Rattle.hm_tree.specs.Names.{Name}
use Rattle.hm_schema.specs.Values.{Names}
use Rattle.hm_terms.specs.Lenses.{Lens, identity, sequence, fork, each, among, none, also, items, on_concrete, on_view, hoist, call, Definitions, body_of}
use Rattle.hm_terms.specs.Calls.{Calls, calls_itself, calls_second, calls_inside, calls_outside, calls_each, calls_among, calls_items, calls_where_it_has, calls_where_it_lacks, calls_where_it_showed, calls_where_it_did_not, Way, one_call, more_calls, IsInBadCycle}

module _ (ds : Definitions) (n : Name) where
  -- `lens L = call(L)`
  loop_is_bad : body_of ds n ≡ Some (call n) → IsInBadCycle ds n
  loop_is_bad is = record { sequence = false; children = false; way = one_call is calls_itself; bad = inr refl }

  -- `lens L = map(hoist(m);call(L))`: each turn goes down, but into a tree that the lens before it has made
  behind_another_is_bad : (m : Name) → body_of ds n ≡ Some (each (sequence (hoist m) (call n))) → IsInBadCycle ds n
  behind_another_is_bad m is = record { sequence = true; children = true; way = one_call is (calls_each (calls_second calls_itself)); bad = inl refl }

  -- `lens L = map(call(L))`: each turn goes down, and that is all
  module _ (is : body_of ds n ≡ Some (each (call n))) where
    record GoesDown (s c : Bool) (m : Name) : Type 0 where
      plain : s ≡ false
      down : c ≡ true
      back : m ≡ n

    call_down : {s c : Bool} {m : Name} → Calls (each (call n)) s c m → GoesDown s c m
    call_down (calls_each calls_itself) = record { plain = refl; down = refl; back = refl }

    body_down : (l : Lens) {s c : Bool} {m : Name} → body_of ds n ≡ Some l → Calls l s c m → GoesDown s c m
    body_down l {s} {c} {m} e h = call_down (subst (λ k. Calls k s c m) (same_Some _ _ (sym e ∙ is)) h)

    way_down : (k : Name) {o : Name} {s c : Bool} → k ≡ n → Way ds k o s c → GoesDown s c o
    way_down k e (one_call {l = l} f h) = body_down l (ap (body_of ds) (sym e) ∙ f) h
    way_down k e (more_calls {m = m} {l = l} f h w) =
        let one = body_down l (ap (body_of ds) (sym e) ∙ f) h in
        let rest = way_down m one.back w in
        record { plain = rw (one.plain, rest.plain) refl; down = rw (one.down) refl; back = rest.back }

    down_is_good : IsInBadCycle ds n → ⊥
    down_is_good b =
        let all = way_down n refl b.way in
        elim b.bad [ inl e ↦ true≢false (sym e ∙ all.plain) | inr e ↦ true≢false (sym all.down ∙ e) ]

-- a call in a lens on items or on named children goes down as one in `map` does, and neither is inside a sequence
items_down : (n m : Name) {s c : Bool} → Calls (items (call n)) s c m → (s ≡ false) × (c ≡ true)
items_down n m (calls_items calls_itself) = (refl, refl)

among_down : (k n m : Name) {s c : Bool} → Calls (among (also k (call n) none)) s c m → c ≡ true
among_down k n m (calls_among z at h) = refl

-- one in the other lenses doesn't
fork_stays : (P Q : Names) (n m : Name) {s c : Bool} → Calls (fork P Q identity (call n)) s c m → (s ≡ false) × (c ≡ false)
fork_stays P Q n m (calls_inside h) = elim h [ ]
fork_stays P Q n m (calls_outside calls_itself) = (refl, refl)

concrete_stays : (k n m : Name) {s c : Bool} → Calls (on_concrete k (call n) identity) s c m → (s ≡ false) × (c ≡ false)
concrete_stays k n m (calls_where_it_has calls_itself) = (refl, refl)
concrete_stays k n m (calls_where_it_lacks h) = elim h [ ]

view_stays : (k o n m : Name) {s c : Bool} → Calls (on_view k o (call n) identity) s c m → (s ≡ false) × (c ≡ false)
view_stays k o n m (calls_where_it_showed calls_itself) = (refl, refl)
view_stays k o n m (calls_where_it_did_not h) = elim h [ ]

-- a way of two calls: it goes down where one of them does, and one inside a sequence is enough to make it bad
module _ (ds : Definitions) (n m : Name) where
  two_calls : body_of ds n ≡ Some (each (call m)) → body_of ds m ≡ Some (call n) → Way ds n n false true
  two_calls one two = more_calls one (calls_each calls_itself) (one_call two calls_itself)

  -- `lens L = id;call(M)`, `lens M = map(call(L))`
  two_calls_bad : body_of ds n ≡ Some (sequence identity (call m)) → body_of ds m ≡ Some (each (call n)) → IsInBadCycle ds n
  two_calls_bad one two = record {
    sequence = true;
    children = true;
    way = more_calls one (calls_second calls_itself) (one_call two (calls_each calls_itself));
    bad = inl refl;
  }
