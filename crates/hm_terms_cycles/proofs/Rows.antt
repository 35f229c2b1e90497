-- Rows of named lenses, of which the first one of each name counts.
use Rattle.std.proofs.Common.{◌≡◌, ◌↔◌, ◌⊎◌, ℕ, ◌+◌, ◌<◌, ◌≤◌, Bool, true, false, ◌||◌, cond, T, List, [], ◌∷◌, ◌++◌, length, get_or, take, Option, Some, None, is_some, is_none, not, refl, sym, ap, subst, ◌∙◌, inl, inr}
use mathlib.Core.Bool.{true≢false}
use Rattle.std.specs.FinMap.{find, is_sorted}
use Rattle.std.specs.Option.{option_or}
use Rattle.std.specs.Ordering.{eq_by_cmp}
use Rattle.std.proofs.Math.Bool.{or-true}
use Rattle.std.proofs.lemmas.List.{take_all}
use Rattle.std.proofs.lemmas.Option.{same_Some, none-some}
use Rattle.hm_tree.specs.Names.{Name, name_cmp}
use Rattle.hm_terms.specs.declared.term.Term.{Term}
use Rattle.hm_terms.specs.Lenses.{Lens, among, lens_at}
use Rattle.hm_terms.specs.Programs.{lens_of, lenses_of}
use Rattle.hm_terms.specs.Calls.{Calls, calls_among}
use Rattle.hm_schema.proofs.NamesOf.{tie_one}
use Rattle.hm_terms_laws.proofs.CallLists.{tied}
use Rattle.hm_terms_cycles.specs.declared.call.Call.{Call}
use Rattle.hm_terms_cycles.specs.declared.call_set.CallSet.{CallSet}
use Rattle.hm_terms_cycles.specs.CallSets.{IsSet, Adds}
use Rattle.hm_terms_cycles.specs.Places.{IsPutLast}
use Rattle.hm_terms_cycles.specs.Callees.{IsCallIn}
use Rattle.hm_terms_cycles.proofs.Adding.{adds_there, adds_both, adds_same}
use Rattle.hm_terms_cycles.proofs.Elements.{take_next}

-- a call that stands in one of the first terms of a row
pub record IsCallBefore (places : List (Name × ℕ)) (sequence : Bool) (ts : List (Name × Term)) (i : ℕ) (x : Call) : Type 0 where
  pub name : Name
  pub lens : Lens
  pub at : lens_at name (lenses_of (take i ts)) ≡ Some lens
  pub is : IsCallIn places sequence true lens x

-- the names of a row
pub record AreNamed (ts : List (Name × Term)) (names : List (Name × ℕ)) : Type 0 where
  pub sorted : T (is_sorted name_cmp names)
  pub all : (n : Name) → is_some (find name_cmp n names) ≡ is_some (lens_at n (lenses_of ts))

-- the calls of the first terms of a row are added to a set, and their names to others
pub record IsWalk (places : List (Name × ℕ)) (sequence : Bool) (ts : List (Name × Term)) (i : ℕ) (old new : CallSet) (names : List (Name × ℕ)) : Type 0 where
  pub set : IsSet new
  pub adds : Adds (IsCallBefore places sequence ts i) old.calls.items new.calls.items
  pub count : length new.marks.items ≡ length old.marks.items
  pub named : AreNamed (take i ts) names

-- the first lens of a name counts
row_last : (ts : List (Name × Term)) (t : Name × Term) (n : Name)
    → lens_at n (lenses_of (ts ++ t ∷ [])) ≡ option_or (lens_at n (lenses_of ts)) (cond (eq_by_cmp name_cmp n t.0) (Some (lens_of t.1)) None)
row_last [] t n = refl
row_last (u ∷ ts) t n = go (eq_by_cmp name_cmp n u.0) (row_last ts t n)
  where
    go : (b : Bool) → lens_at n (lenses_of (ts ++ t ∷ [])) ≡ option_or (lens_at n (lenses_of ts)) (cond (eq_by_cmp name_cmp n t.0) (Some (lens_of t.1)) None)
        → cond b (Some (lens_of u.1)) (lens_at n (lenses_of (ts ++ t ∷ [])))
        ≡ option_or (cond b (Some (lens_of u.1)) (lens_at n (lenses_of ts))) (cond (eq_by_cmp name_cmp n t.0) (Some (lens_of t.1)) None)
    go true e = refl
    go false e = e

some_or : {A B : Type 0} (x : Option A) (y : Option B) (b : Bool) (v : A) (w : B) → is_some x ≡ is_some y
    → is_some (option_or x (cond b (Some v) None)) ≡ is_some (option_or y (cond b (Some w) None))
some_or None None true v w e = refl
some_or None None false v w e = refl
some_or (Some x) (Some y) b v w e = refl
some_or None (Some y) b v w e = absurd (true≢false (sym e))
some_or (Some x) None b v w e = absurd (true≢false e)

some_lens : (o : Option Lens) → is_some o ≡ true → (l : Lens) × (o ≡ Some l)
some_lens None e = absurd (true≢false (sym e))
some_lens (Some l) e = (l, refl)

no_lens : (o : Option Lens) → is_some o ≡ false → o ≡ None
no_lens None e = refl
no_lens (Some l) e = absurd (true≢false e)

module _ (places : List (Name × ℕ)) (S : Bool) (ts : List (Name × Term)) where
  pub walk_begins : (set : CallSet) (names : List (Name × ℕ)) → IsSet set → names ≡ [] → IsWalk places S ts 0 set set names
  walk_begins set names so e = record {
    set = so;
    adds = adds_there (IsCallBefore places S ts 0) set.calls.items (λ x h. absurd (none-some h.lens h.at));
    count = refl;
    named = subst (AreNamed []) (sym e) (record { sorted = tt; all = λ n. refl });
  }

  module _ (i : ℕ) (t : Name × Term) (lt : i < length ts) (is : t ≡ get_or ts i t) (old now : CallSet) (names new : List (Name × ℕ))
      (walk : IsWalk places S ts i old now names) (put : IsPutLast t.0 i names new) where
    row_at : (n : Name) → lens_at n (lenses_of (take (i + 1) ts))
        ≡ option_or (lens_at n (lenses_of (take i ts))) (cond (eq_by_cmp name_cmp n t.0) (Some (lens_of t.1)) None)
    row_at n =
        ap (λ l. lens_at n (lenses_of l)) (take_next ts i t lt is) ∙ row_last (take i ts) t n

    named_more : AreNamed (take (i + 1) ts) new
    named_more = record {
      sorted = put.sorted;
      all = λ n. ap is_some (put.all n)
          ∙ some_or (find name_cmp n names) (lens_at n (lenses_of (take i ts))) (eq_by_cmp name_cmp n t.0) i (lens_of t.1) (walk.named.all n)
          ∙ sym (ap is_some (row_at n));
    }

    still_at : (n : Name) (l : Lens) → lens_at n (lenses_of (take i ts)) ≡ Some l → lens_at n (lenses_of (take (i + 1) ts)) ≡ Some l
    still_at n l e = row_at n ∙ ap (λ o. option_or o (cond (eq_by_cmp name_cmp n t.0) (Some (lens_of t.1)) None)) e

    still_before : (x : Call) → IsCallBefore places S ts i x → IsCallBefore places S ts (i + 1) x
    still_before x h = record { name = h.name; lens = h.lens; at = still_at h.name h.lens h.at; is = h.is }

    -- a lens of the longer row is one of the shorter row, or the last one
    at_before : (n : Name) (l : Lens) → lens_at n (lenses_of (take (i + 1) ts)) ≡ Some l
        → (lens_at n (lenses_of (take i ts)) ≡ Some l) ⊎ ((eq_by_cmp name_cmp n t.0 ≡ true) × (lens_of t.1 ≡ l))
    at_before n l e = go (lens_at n (lenses_of (take i ts))) (eq_by_cmp name_cmp n t.0) (sym (row_at n) ∙ e)
      where
        go : (o : Option Lens) (b : Bool) → option_or o (cond b (Some (lens_of t.1)) None) ≡ Some l → (o ≡ Some l) ⊎ ((b ≡ true) × (lens_of t.1 ≡ l))
        go (Some k) b f = inl f
        go None true f = inr (refl, same_Some (lens_of t.1) l f)
        go None false f = absurd (none-some l f)

    -- a new name: its lens is there too
    new_before : lens_at t.0 (lenses_of (take i ts)) ≡ None → (x : Call)
        → IsCallBefore places S ts (i + 1) x ↔ (IsCallBefore places S ts i x ⊎ IsCallIn places S true (lens_of t.1) x)
    new_before none x = (
      λ h. elim (at_before h.name h.lens h.at) [
        | inl e ↦ inl (record { name = h.name; lens = h.lens; at = e; is = h.is })
        | inr e ↦ inr (subst (λ l. IsCallIn places S true l x) (sym e.1) h.is)
      ],
      λ h. elim h [
        | inl b ↦ still_before x b
        | inr c ↦ record {
          name = t.0;
          lens = lens_of t.1;
          at = row_at t.0 ∙ ap (λ o. option_or o (cond (eq_by_cmp name_cmp t.0 t.0) (Some (lens_of t.1)) None)) none
              ∙ ap (λ b. cond b (Some (lens_of t.1)) None) (tied t.0);
          is = c;
        }
      ],
    )

    -- a name that was there: its lens doesn't count
    old_before : is_some (lens_at t.0 (lenses_of (take i ts))) ≡ true → (x : Call) → IsCallBefore places S ts (i + 1) x ↔ IsCallBefore places S ts i x
    old_before some x = (λ h. go h (at_before h.name h.lens h.at), still_before x)
      where
        go : (h : IsCallBefore places S ts (i + 1) x)
            → (lens_at h.name (lenses_of (take i ts)) ≡ Some h.lens) ⊎ ((eq_by_cmp name_cmp h.name t.0 ≡ true) × (lens_of t.1 ≡ h.lens))
            → IsCallBefore places S ts i x
        go h (inl e) = record { name = h.name; lens = h.lens; at = e; is = h.is }
        go h (inr e) =
            let w = some_lens (lens_at t.0 (lenses_of (take i ts))) some in
            let here : lens_at h.name (lenses_of (take i ts)) ≡ Some w.0 = ap (λ n. lens_at n (lenses_of (take i ts))) (tie_one h.name t.0 e.0) ∙ w.1 in
            let same : w.0 ≡ h.lens = same_Some w.0 h.lens (sym (still_at h.name w.0 here) ∙ h.at) in
            record { name = h.name; lens = h.lens; at = here ∙ ap Some same; is = h.is }

    gone : (b : Bool) → b ≡ is_none (find name_cmp t.0 names) → is_some (lens_at t.0 (lenses_of (take i ts))) ≡ not b
    gone b e = sym (walk.named.all t.0) ∙ go (find name_cmp t.0 names) b e
      where
        go : (o : Option ℕ) (b : Bool) → b ≡ is_none o → is_some o ≡ not b
        go None b e = sym (ap not e)
        go (Some i) b e = sym (ap not e)

    pub walk_new : (last joined : CallSet) → joined ≡ last → true ≡ is_none (find name_cmp t.0 names) → IsSet last
        → Adds (IsCallIn places S true (lens_of t.1)) now.calls.items last.calls.items → length last.marks.items ≡ length now.marks.items
        → IsWalk places S ts (i + 1) old joined new
    walk_new last joined is_last fresh so h count = subst (λ s. IsWalk places S ts (i + 1) old s new) (sym is_last) (record {
      set = so;
      adds = adds_both (IsCallBefore places S ts i) (IsCallIn places S true (lens_of t.1)) (IsCallBefore places S ts (i + 1)) _ _ _ walk.adds h
          (new_before (no_lens (lens_at t.0 (lenses_of (take i ts))) (gone true fresh)));
      count = count ∙ walk.count;
      named = named_more;
    })

    pub walk_old : (joined : CallSet) → joined ≡ now → false ≡ is_none (find name_cmp t.0 names) → IsWalk places S ts (i + 1) old joined new
    walk_old joined is_now known = subst (λ s. IsWalk places S ts (i + 1) old s new) (sym is_now) (record {
      set = walk.set;
      adds = adds_same (IsCallBefore places S ts i) (IsCallBefore places S ts (i + 1)) _ _ walk.adds (old_before (gone false known));
      count = walk.count;
      named = named_more;
    })

  -- ---- the whole row

  of_among : (C : Bool) (i : ℕ) → length ts ≤ i → (x : Call) → IsCallIn places S C (among (lenses_of ts)) x ↔ IsCallBefore places S ts i x
  of_among C i le x = (λ h. go h.calls h.there h.is_sequence h.is_children, back)
    where
      whole : take i ts ≡ ts
      whole = take_all i ts le

      go : {s c : Bool} {n : Name} → Calls (among (lenses_of ts)) s c n → find name_cmp n places ≡ Some x.place → x.sequence ≡ S || s → x.children ≡ C || c
          → IsCallBefore places S ts i x
      go (calls_among m {l = l} {s = s} {c = c} {n = n} at h) t e f = record {
        name = m;
        lens = l;
        at = ap (λ ts. lens_at m (lenses_of ts)) whole ∙ at;
        is = record { name = n; there = t; in_sequence = s; in_children = c; calls = h; is_sequence = e; is_children = f ∙ or-true C };
      }

      back : IsCallBefore places S ts i x → IsCallIn places S C (among (lenses_of ts)) x
      back h = record {
        name = h.is.name;
        there = h.is.there;
        in_sequence = h.is.in_sequence;
        in_children = true;
        calls = calls_among h.name (ap (λ ts. lens_at h.name (lenses_of ts)) (sym whole) ∙ h.at) h.is.calls;
        is_sequence = h.is.is_sequence;
        is_children = h.is.is_children ∙ sym (or-true C);
      }

  pub adds_among : {m : Lens} (C : Bool) (i : ℕ) (old new : List Call) → length ts ≤ i → m ≡ among (lenses_of ts)
      → Adds (IsCallBefore places S ts i) old new → Adds (IsCallIn places S C m) old new
  adds_among {m} C i old new le e h =
      adds_same (IsCallBefore places S ts i) (IsCallIn places S C m) old new h
      (subst (λ m. (x : Call) → IsCallIn places S C m x ↔ IsCallBefore places S ts i x) (sym e) (of_among C i le))
