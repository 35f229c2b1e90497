-- The calls of a lens, by the calls of the lenses inside.
use Rattle.std.proofs.Common.{◌≡◌, ◌↔◌, ◌⊎◌, ℕ, ◌||◌, Bool, true, false, List, Some, None, refl, sym, ap, subst, ◌∙◌, inl, inr}
use Rattle.std.specs.FinMap.{find}
use Rattle.std.proofs.Math.Bool.{or-true, or-false}
use Rattle.std.proofs.lemmas.Option.{same_Some, none-some}
use Rattle.hm_tree.specs.Names.{Name, name_cmp}
use Rattle.hm_schema.specs.Values.{Names}
use Rattle.hm_terms.specs.Lenses.{Lens, sequence, fork, each, items, on_concrete, on_view, call}
use Rattle.hm_terms.specs.Calls.{Calls, calls_itself, calls_first, calls_second, calls_inside, calls_outside, calls_each, calls_items, calls_where_it_has, calls_where_it_lacks, calls_where_it_showed, calls_where_it_did_not}
use Rattle.hm_terms_cycles.specs.declared.call.Call.{Call}
use Rattle.hm_terms_cycles.specs.CallSets.{Adds}
use Rattle.hm_terms_cycles.specs.Callees.{IsCallIn}
use Rattle.hm_terms_cycles.proofs.Adding.{adds_there, adds_both, adds_same}

-- S and C: whether the lens itself stands inside a sequence, and inside a lens on children or items
module _ (places : List (Name × ℕ)) (S C : Bool) where
  -- ---- a lens without calls

  pub adds_none : (l : Lens) (calls : List Call) → ((s c : Bool) (n : Name) → ¬ (Calls l s c n)) → Adds (IsCallIn places S C l) calls calls
  adds_none l calls f = adds_there (IsCallIn places S C l) calls (λ x h. absurd (f h.in_sequence h.in_children h.name h.calls))

  -- ---- a call

  -- what a call of a definition is
  record IsItself (s c : Bool) (n m : Name) : Type 0 where
    plain : s ≡ false
    level : c ≡ false
    same : n ≡ m

  itself : {s c : Bool} {n m : Name} → Calls (call m) s c n → IsItself s c n m
  itself calls_itself = record { plain = refl; level = refl; same = refl }

  of_call : (m : Name) (p : ℕ) → find name_cmp m places ≡ Some p → (x : Call)
      → IsCallIn places S C (call m) x ↔ (x ≡ record { place = p; sequence = S; children = C })
  of_call m p at x = (
    λ h.
        let i = itself h.calls in
        let place : x.place ≡ p = same_Some x.place p (sym h.there ∙ ap (λ n. find name_cmp n places) i.same ∙ at) in
        let sequence : x.sequence ≡ S = h.is_sequence ∙ ap (λ b. S || b) i.plain ∙ or-false S in
        let children : x.children ≡ C = h.is_children ∙ ap (λ b. C || b) i.level ∙ or-false C in
        λ j. record { place = place j; sequence = sequence j; children = children j },
    λ e. record {
      name = m;
      there = at ∙ ap (λ (x : Call). Some x.place) (sym e);
      in_sequence = false;
      in_children = false;
      calls = calls_itself;
      is_sequence = ap (λ (x : Call). x.sequence) e ∙ sym (or-false S);
      is_children = ap (λ (x : Call). x.children) e ∙ sym (or-false C);
    },
  )

  pub adds_call : (m : Name) (p : ℕ) (old new : List Call) → find name_cmp m places ≡ Some p
      → Adds (λ x. x ≡ record { place = p; sequence = S; children = C }) old new → Adds (IsCallIn places S C (call m)) old new
  adds_call m p old new at h = adds_same _ (IsCallIn places S C (call m)) old new h (of_call m p at)

  pub adds_no_call : (m : Name) (calls : List Call) → find name_cmp m places ≡ None → Adds (IsCallIn places S C (call m)) calls calls
  adds_no_call m calls gone = adds_there (IsCallIn places S C (call m)) calls
      (λ x h. absurd (none-some x.place (sym (ap (λ n. find name_cmp n places) (itself h.calls).same ∙ gone) ∙ h.there)))

  -- ---- a lens on children or items

  module _ (f : Lens → Lens) (split : (l : Lens) (s c : Bool) (n : Name) → Calls (f l) s c n → (d : Bool) × (c ≡ true) × Calls l s d n)
      (join : (l : Lens) (s c : Bool) (n : Name) → Calls l s c n → Calls (f l) s true n) where
    of_below : (l : Lens) (x : Call) → IsCallIn places S C (f l) x ↔ IsCallIn places S true l x
    of_below l x = (
      λ h. let d = split l h.in_sequence h.in_children h.name h.calls in
          record {
            name = h.name;
            there = h.there;
            in_sequence = h.in_sequence;
            in_children = d.0;
            calls = d.2;
            is_sequence = h.is_sequence;
            is_children = h.is_children ∙ ap (λ b. C || b) d.1 ∙ or-true C;
          },
      λ h. record {
        name = h.name;
        there = h.there;
        in_sequence = h.in_sequence;
        in_children = true;
        calls = join l h.in_sequence h.in_children h.name h.calls;
        is_sequence = h.is_sequence;
        is_children = h.is_children ∙ sym (or-true C);
      },
    )

    pub adds_below : {m l p : Lens} (old new : List Call) → m ≡ f p → l ≡ p → Adds (IsCallIn places S true l) old new → Adds (IsCallIn places S C m) old new
    adds_below {m} {l} {p} old new e a h =
        adds_same (IsCallIn places S true l) (IsCallIn places S C m) old new h
        (subst (λ m. (x : Call) → IsCallIn places S C m x ↔ IsCallIn places S true l x) (sym (e ∙ ap f (sym a))) (of_below l))

  -- ---- one lens after another

  of_sequence : (l k : Lens) (x : Call) → IsCallIn places S C (sequence l k) x ↔ (IsCallIn places true C l x ⊎ IsCallIn places true C k x)
  of_sequence l k x = (λ h. go h.calls h.there h.is_sequence h.is_children, back)
    where
      go : {s c : Bool} {n : Name} → Calls (sequence l k) s c n → find name_cmp n places ≡ Some x.place → x.sequence ≡ S || s → x.children ≡ C || c
          → IsCallIn places true C l x ⊎ IsCallIn places true C k x
      go (calls_first {s = s} {c = c} {n = n} h) t e f =
          inl (record { name = n; there = t; in_sequence = s; in_children = c; calls = h; is_sequence = e ∙ or-true S; is_children = f })
      go (calls_second {s = s} {c = c} {n = n} h) t e f =
          inr (record { name = n; there = t; in_sequence = s; in_children = c; calls = h; is_sequence = e ∙ or-true S; is_children = f })

      back : IsCallIn places true C l x ⊎ IsCallIn places true C k x → IsCallIn places S C (sequence l k) x
      back (inl a) = record {
        name = a.name;
        there = a.there;
        in_sequence = true;
        in_children = a.in_children;
        calls = calls_first a.calls;
        is_sequence = a.is_sequence ∙ sym (or-true S);
        is_children = a.is_children;
      }
      back (inr b) = record {
        name = b.name;
        there = b.there;
        in_sequence = true;
        in_children = b.in_children;
        calls = calls_second b.calls;
        is_sequence = b.is_sequence ∙ sym (or-true S);
        is_children = b.is_children;
      }

  pub adds_sequence : {m l k p q : Lens} (old mid new : List Call) → m ≡ sequence p q → l ≡ p → k ≡ q → Adds (IsCallIn places true C l) old mid
      → Adds (IsCallIn places true C k) mid new → Adds (IsCallIn places S C m) old new
  adds_sequence {m} {l} {k} old mid new e a b h j =
      adds_both (IsCallIn places true C l) (IsCallIn places true C k) (IsCallIn places S C m) old mid new h j
      (subst (λ m. (x : Call) → IsCallIn places S C m x ↔ (IsCallIn places true C l x ⊎ IsCallIn places true C k x))
      (sym (e ∙ (λ i. sequence (sym a i) (sym b i)))) (of_sequence l k))

  -- ---- a lens with one of two lenses

  module _ (f : Lens → Lens → Lens) (split : (l k : Lens) (s c : Bool) (n : Name) → Calls (f l k) s c n → Calls l s c n ⊎ Calls k s c n)
      (one : (l k : Lens) (s c : Bool) (n : Name) → Calls l s c n → Calls (f l k) s c n)
      (two : (l k : Lens) (s c : Bool) (n : Name) → Calls k s c n → Calls (f l k) s c n) where
    of_branches : (l k : Lens) (x : Call) → IsCallIn places S C (f l k) x ↔ (IsCallIn places S C l x ⊎ IsCallIn places S C k x)
    of_branches l k x = (
      λ h. elim (split l k h.in_sequence h.in_children h.name h.calls) [
        | inl a ↦ inl (record {
          name = h.name;
          there = h.there;
          in_sequence = h.in_sequence;
          in_children = h.in_children;
          calls = a;
          is_sequence = h.is_sequence;
          is_children = h.is_children;
        })
        | inr b ↦ inr (record {
          name = h.name;
          there = h.there;
          in_sequence = h.in_sequence;
          in_children = h.in_children;
          calls = b;
          is_sequence = h.is_sequence;
          is_children = h.is_children;
        })
      ],
      λ h. elim h [
        | inl a ↦ record {
          name = a.name;
          there = a.there;
          in_sequence = a.in_sequence;
          in_children = a.in_children;
          calls = one l k a.in_sequence a.in_children a.name a.calls;
          is_sequence = a.is_sequence;
          is_children = a.is_children;
        }
        | inr b ↦ record {
          name = b.name;
          there = b.there;
          in_sequence = b.in_sequence;
          in_children = b.in_children;
          calls = two l k b.in_sequence b.in_children b.name b.calls;
          is_sequence = b.is_sequence;
          is_children = b.is_children;
        }
      ],
    )

    pub adds_branches : {m l k p q : Lens} (old mid new : List Call) → m ≡ f p q → l ≡ p → k ≡ q → Adds (IsCallIn places S C l) old mid
        → Adds (IsCallIn places S C k) mid new → Adds (IsCallIn places S C m) old new
    adds_branches {m} {l} {k} {p} {q} old mid new e a b h j =
        adds_both (IsCallIn places S C l) (IsCallIn places S C k) (IsCallIn places S C m) old mid new h j
        (subst (λ m. (x : Call) → IsCallIn places S C m x ↔ (IsCallIn places S C l x ⊎ IsCallIn places S C k x))
        (sym (e ∙ (λ i. f (sym a i) (sym b i)))) (of_branches l k))

-- ---- what a lens of each kind calls

pub split_each : (l : Lens) (s c : Bool) (n : Name) → Calls (each l) s c n → (d : Bool) × (c ≡ true) × Calls l s d n
split_each l s _ n (calls_each {c = c} h) = (c, refl, h)

pub split_items : (l : Lens) (s c : Bool) (n : Name) → Calls (items l) s c n → (d : Bool) × (c ≡ true) × Calls l s d n
split_items l s _ n (calls_items {c = c} h) = (c, refl, h)

pub split_fork : (P Q : Names) (l k : Lens) (s c : Bool) (n : Name) → Calls (fork P Q l k) s c n → Calls l s c n ⊎ Calls k s c n
split_fork P Q l k s c n (calls_inside h) = inl h
split_fork P Q l k s c n (calls_outside h) = inr h

pub split_concrete : (m : Name) (l k : Lens) (s c : Bool) (n : Name) → Calls (on_concrete m l k) s c n → Calls l s c n ⊎ Calls k s c n
split_concrete m l k s c n (calls_where_it_has h) = inl h
split_concrete m l k s c n (calls_where_it_lacks h) = inr h

pub split_view : (m o : Name) (l k : Lens) (s c : Bool) (n : Name) → Calls (on_view m o l k) s c n → Calls l s c n ⊎ Calls k s c n
split_view m o l k s c n (calls_where_it_showed h) = inl h
split_view m o l k s c n (calls_where_it_did_not h) = inr h
