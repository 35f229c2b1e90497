-- A set of calls with one call more.
use Rattle.std.proofs.Common.{◌≡◌, ◌≢◌, ◌⊎◌, ℕ, ◌+◌, ◌<◌, Bool, true, false, List, [], ◌∷◌, ◌++◌, length, get_or, set, replicate, refl, sym, ap, subst, ◌∙◌, inl, inr, arith, length-append}
use mathlib.Core.Bool.{true≢false}
use Rattle.std.specs.List.{Contains}
use Rattle.std.proofs.lemmas.Bool.{cases_eq, cases_lt}
use Rattle.std.proofs.lemmas.Option.{same_Some, slice_get-get_or}
use Rattle.std.proofs.lemmas.List.{get_or-set_same, get_or-set_other, length-set, get_or-replicate, length-replicate}
use Rattle.std.proofs.lemmas.List.Sums.{sum_by-set}
use Rattle.std.proofs.lemmas.List.Folds.{sum_by-replicate}
use Rattle.std.proofs.lemmas.List.Elements.{Contains-append_left, Contains-push, Contains-push_cases}
use Rattle.std.proofs.Math.ListN.{get_or-eq_default}
use Rattle.hm_terms_cycles.specs.declared.call.Call.{Call}
use Rattle.hm_terms_cycles.specs.declared.call_set.Marks.{Marks}
use Rattle.hm_terms_cycles.specs.CallSets.{AreMarked, no_marks, marked, mark, unmarked, is_marked}

-- ---- the marks of a definition

abbrev at : ℕ → Bool → Bool → Call
at i s c = record { place = i; sequence = s; children = c }

module _ (m : Marks) (i : ℕ) where
  marked_before : (s c t d : Bool) → marked (mark m (at i s c)) (at i t d) ≡ true → (marked m (at i t d) ≡ true) ⊎ (at i t d ≡ at i s c)
  marked_before true true true true e = inr refl
  marked_before true false true false e = inr refl
  marked_before false true false true e = inr refl
  marked_before false false false false e = inr refl
  marked_before _ _ _ _ e = inl e

  marked_still : (s c t d : Bool) → marked m (at i t d) ≡ true → marked (mark m (at i s c)) (at i t d) ≡ true
  marked_still true true true true e = refl
  marked_still true false true false e = refl
  marked_still false true false true e = refl
  marked_still false false false false e = refl
  marked_still _ _ _ _ e = e

  marked_itself : (s c : Bool) → marked (mark m (at i s c)) (at i s c) ≡ true
  marked_itself true true = refl
  marked_itself true false = refl
  marked_itself false true = refl
  marked_itself false false = refl

  unmarked_less : (s c : Bool) → marked m (at i s c) ≡ false → unmarked (mark m (at i s c)) + 1 ≡ unmarked m
  unmarked_less true true e = rw e (omega arith)
  unmarked_less true false e = rw e (omega arith)
  unmarked_less false true e = rw e (omega arith)
  unmarked_less false false e = rw e (omega arith)

-- ---- the marks of all definitions

no_others : (n : ℕ) (x : Call) → is_marked (replicate n no_marks) x ≡ false
no_others n x = elim (cases_lt x.place n) [
  | inl lt ↦ go x.sequence x.children (get_or-replicate n x.place no_marks no_marks lt)
  | inr le ↦ go x.sequence x.children (get_or-eq_default (replicate n no_marks) no_marks (omega (arith, length-replicate n no_marks)))
]
  where
    go : (s c : Bool) → get_or (replicate n no_marks) x.place no_marks ≡ no_marks
        → marked (get_or (replicate n no_marks) x.place no_marks) (at x.place s c) ≡ false
    go true true e = rw e refl
    go true false e = rw e refl
    go false true e = rw e refl
    go false false e = rw e refl

-- no calls
pub none_marked : (n : ℕ) → AreMarked [] (replicate n no_marks)
none_marked n = record {
  same = λ x. (λ h. absurd (omega (arith, h.1)), λ e. absurd (true≢false (sym e ∙ no_others n x)));
  count = omega (arith, sum_by-replicate unmarked n no_marks, length-replicate n no_marks);
}

module _ (ms : List Marks) (x : Call) (m : Marks) (below : x.place < length ms) (is : m ≡ get_or ms x.place m) where
  is_here : get_or ms x.place no_marks ≡ m
  is_here = same_Some _ _ (sym (slice_get-get_or ms x.place no_marks below) ∙ slice_get-get_or ms x.place m below) ∙ sym is

  pub marked_here : is_marked ms x ≡ marked m x
  marked_here = ap (λ m. marked m x) is_here

  more : List Marks
  more = set ms x.place (mark m x)

  more_here : get_or more x.place no_marks ≡ mark m x
  unfolding more
  more_here = get_or-set_same ms x.place (mark m x) no_marks below

  more_other : (y : Call) → y.place ≢ x.place → is_marked more y ≡ is_marked ms y
  unfolding more
  more_other y ne = ap (λ m. marked m y) (get_or-set_other ms x.place y.place (mark m x) no_marks ne)

  -- a call at the same place
  same_place : (y : Call) → y.place ≡ x.place → y ≡ at x.place y.sequence y.children
  same_place y e = ap (λ i. at i y.sequence y.children) e

  before : (y : Call) → is_marked more y ≡ true → (is_marked ms y ≡ true) ⊎ (y ≡ x)
  before y h = elim (cases_eq y.place x.place) [
    | inr ne ↦ inl (sym (more_other y ne) ∙ h)
    | inl e ↦
        let z = at x.place y.sequence y.children in
        let there : marked (mark m x) z ≡ true = sym (ap (λ m. marked m z) more_here) ∙ sym (ap (is_marked more) (same_place y e)) ∙ h in
        elim (marked_before m x.place x.sequence x.children y.sequence y.children there) [
          | inl was ↦ inl (ap (is_marked ms) (same_place y e) ∙ ap (λ m. marked m z) is_here ∙ was)
          | inr it ↦ inr (same_place y e ∙ it)
        ]
  ]

  still : (y : Call) → is_marked ms y ≡ true → is_marked more y ≡ true
  still y h = elim (cases_eq y.place x.place) [
    | inr ne ↦ more_other y ne ∙ h
    | inl e ↦
        let z = at x.place y.sequence y.children in
        let there : marked m z ≡ true = sym (ap (λ m. marked m z) is_here) ∙ sym (ap (is_marked ms) (same_place y e)) ∙ h in
        ap (is_marked more) (same_place y e) ∙ ap (λ m. marked m z) more_here
        ∙ marked_still m x.place x.sequence x.children y.sequence y.children there
  ]

  itself : is_marked more x ≡ true
  itself = ap (λ m. marked m x) more_here ∙ marked_itself m x.place x.sequence x.children

  more_marked : (calls : List Call) → AreMarked calls ms → marked m x ≡ false → AreMarked (calls ++ x ∷ []) (set ms x.place (mark m x))
  unfolding more
  more_marked calls h new = record {
    same = λ y. (
      λ there. elim (Contains-push_cases calls x y there) [
        | inl was ↦ still y ((h.same y).0 was)
        | inr it ↦ subst (λ y. is_marked more y ≡ true) it itself
      ],
      λ there. elim (before y there) [
        | inl was ↦ Contains-append_left calls (x ∷ []) y ((h.same y).1 was)
        | inr it ↦ subst (Contains (calls ++ x ∷ [])) (sym it) (Contains-push calls x)
      ],
    );
    count =
        let sums = sum_by-set unmarked ms x.place (mark m x) m below in
        let read : unmarked (get_or ms x.place m) ≡ unmarked m = sym (ap unmarked is) in
        omega (
          arith,
          h.count,
          sums,
          read,
          unmarked_less m x.place x.sequence x.children new,
          length-append calls (x ∷ []),
          length-set ms x.place (mark m x),
        );
  }

-- a call that isn't marked is added and marked, as the code reads the marks before and after
pub one_more : (calls new : List Call) (ms : List Marks) (x : Call) (m k v : Marks) → AreMarked calls ms → x.place < length ms
    → m ≡ get_or ms x.place m → k ≡ get_or ms x.place k → marked m x ≡ false → new ≡ calls ++ x ∷ [] → v ≡ mark k x
    → AreMarked new (set ms x.place v)
one_more calls new ms x m k v h below is_m is_k fresh is_new is_v =
    let same : m ≡ k = sym (is_here ms x m below is_m) ∙ is_here ms x k below is_k in
    subst (λ l. AreMarked l (set ms x.place v)) (sym is_new)
    (subst (λ v. AreMarked (calls ++ x ∷ []) (set ms x.place v)) (ap (λ m. mark m x) same ∙ sym is_v) (more_marked ms x m below is_m calls h fresh))

-- a call that is marked is there
pub one_there : (calls : List Call) (ms : List Marks) (x : Call) (m : Marks) → AreMarked calls ms → x.place < length ms
    → m ≡ get_or ms x.place m → marked m x ≡ true → Contains calls x
one_there calls ms x m h below is old = (h.same x).1 (marked_here ms x m below is ∙ old)
