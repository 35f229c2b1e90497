-- The search for all ways from a definition: what was found first is followed first.
use Rattle.std.proofs.Common.{◌≡◌, ℕ, ◌+◌, ◌<◌, ◌≤◌, false, Vec, All, Option, None, List, [], length, get_or, slice_get, Some, refl, sym, ap, subst, ◌∙◌, inl, inr, arith}
use Rattle.std.specs.List.{Contains}
use Rattle.std.specs.declared.alloc.Global.{Global}
use Rattle.std.proofs.lemmas.Bool.{cases_lt}
use Rattle.std.proofs.lemmas.Option.{same_Some, slice_get-get_or, slice_get_read, slice_get_within, get_or_from_slice_get}
use Rattle.std.proofs.lemmas.List.Elements.{All-get_or, All-contains}
use Rattle.hm_terms_cycles.specs.declared.call.Call.{Call}
use Rattle.hm_terms_cycles.specs.Calls.{behind, Callees, items_of, calls_from, IsClosed, Leads, by_one, by_more}
use Rattle.hm_terms_cycles.specs.CallSets.{Adds, BehindOne}
use Rattle.hm_terms_cycles.proofs.Elements.{slice_front}

-- ---- what the code reads

module _ (g : Callees) (i : ℕ) (v : Vec Call Global) (lt : i < length g) (is : v ≡ get_or g i v) where
  pub calls_read : calls_from g i ≡ v.items
  calls_read = ap items_of (slice_get_read g (length g) i v refl lt is)

  all_below : IsClosed g → All (λ (x : Call). x.place < length g) v.items
  all_below closed =
      subst (λ (v : Vec Call Global). All (λ (x : Call). x.place < length g) v.items) (sym is)
      (All-get_or (λ (v : Vec Call Global). All (λ (x : Call). x.place < length g) v.items) g i v lt closed)

  pub lent_below : IsClosed g → (count : ℕ) (calls : List Call) → count ≡ length g → calls ≡ v.items → All (λ (x : Call). x.place < count) calls
  lent_below closed count calls is_count is_calls =
      subst (λ n. All (λ (x : Call). x.place < n) calls) (sym is_count)
      (subst (λ l. All (λ (x : Call). x.place < length g) l) (sym is_calls) (all_below closed))

place_of_element : (xs : List Call) (x : Call) → Contains xs x → (k : ℕ) × (k < length xs) × (slice_get xs k ≡ Some x)
place_of_element xs x h = (h.0, h.1, slice_get-get_or xs h.0 x h.1 ∙ ap Some h.2)

element_at : (xs : List Call) (k : ℕ) (x : Call) → k < length xs → slice_get xs k ≡ Some x → Contains xs x
element_at xs k x lt e = (k, lt, same_Some _ _ (sym (slice_get-get_or xs k x lt) ∙ e))

-- ---- the search

pub record IsSearch (g : Callees) (i : ℕ) (followed : ℕ) (found : List Call) : Type 0 where
  pub sound : (x : Call) → Contains found x → Leads g i x
  pub first : (x : Call) → Contains (calls_from g i) x → Contains found x
  pub further : (k : ℕ) (x y : Call) → k < followed → slice_get found k ≡ Some x → Contains (calls_from g x.place) y → Contains found (behind x y)

module _ (g : Callees) (i : ℕ) (closed : IsClosed g) where
  below : (x : Call) (j : ℕ) → Contains (calls_from g j) x → x.place < length g
  below x j h = go (slice_get g j) refl h
    where
      go : (o : Option (Vec Call Global)) → slice_get g j ≡ o → Contains (items_of o) x → x.place < length g
      go None e h = absurd (omega (arith, h.1))
      go (Some v) e h =
          All-contains (λ (x : Call). x.place < length g) v.items x
          (all_below g j v (slice_get_within g j v e) (sym (get_or_from_slice_get g j v v e)) closed) h

  leads_below : {x : Call} → Leads g i x → x.place < length g
  leads_below (by_one {x = x} h) = below x i h
  leads_below (by_more {x = x} {y = y} w h) = below y x.place h

  -- a way that is followed
  pub way_below : (followed : ℕ) (found : List Call) (way : Call) → IsSearch g i followed found → followed < length found
      → way ≡ get_or found followed way → way.place < length g
  way_below followed found way s lt is = leads_below (s.sound way (followed, lt, sym is))

module _ (g : Callees) (i : ℕ) where
  pub search_begins : (old calls found : List Call) → old ≡ [] → calls ≡ calls_from g i
      → Adds (BehindOne (record { place = i; sequence = false; children = false }) calls) old found → IsSearch g i 0 found
  search_begins old calls found none is h = record {
    sound = λ x there. elim ((h.all x).0 there) [
      | inl o ↦ absurd (omega (arith, o.1, ap length none))
      | inr r ↦ subst (Leads g i) (sym r.2) (by_one (subst (λ l. Contains l r.0) is r.1))
    ];
    first = λ x there. (h.all x).1 (inr (x, subst (λ l. Contains l x) (sym is) there, refl));
    further = λ k x y lt e there. absurd (omega (arith, lt));
  }

  module _ (followed : ℕ) (old calls found : List Call) (way : Call) (s : IsSearch g i followed old) (lt : followed < length old)
      (here : slice_get old followed ≡ Some way) (is : calls ≡ calls_from g way.place) (h : Adds (BehindOne way calls) old found) where
    leads_here : Leads g i way
    leads_here = s.sound way (element_at old followed way lt here)

    followed_more : (k : ℕ) (x y : Call) → k < followed + 1 → slice_get found k ≡ Some x → Contains (calls_from g x.place) y → Contains found (behind x y)
    followed_more k x y less e there =
        let was : slice_get old k ≡ Some x =
        sym (slice_front old h.added k (omega (arith, less, lt))) ∙ ap (λ l. slice_get l k) (sym h.is) ∙ e in
        elim (cases_lt k followed) [
          | inl before ↦ (h.all (behind x y)).1 (inl (s.further k x y before was there))
          | inr after ↦
              let same : k ≡ followed = omega (arith, less, after) in
              let it : x ≡ way = same_Some x way (sym was ∙ ap (slice_get old) same ∙ here) in
              (h.all (behind x y)).1 (inr (
                y,
                subst (λ l. Contains l y) (ap (λ (x : Call). calls_from g x.place) it ∙ sym is) there,
                ap (λ x. behind x y) it,
              ))
        ]

    pub search_goes_on : IsSearch g i (followed + 1) found
    search_goes_on = record {
      sound = λ x there. elim ((h.all x).0 there) [
        | inl o ↦ s.sound x o
        | inr r ↦ subst (Leads g i) (sym r.2) (by_more leads_here (subst (λ l. Contains l r.0) is r.1))
      ];
      first = λ x there. (h.all x).1 (inl (s.first x there));
      further = followed_more;
    }

  pub search_ends : (followed : ℕ) (found : List Call) → IsSearch g i followed found → length found ≤ followed → {x : Call} → Leads g i x → Contains found x
  search_ends followed found s all (by_one {x = x} h) = s.first x h
  search_ends followed found s all (by_more {x = x} {y = y} w h) =
      let at = place_of_element found x (search_ends followed found s all w) in
      s.further at.0 x y (omega (arith, at.1, all)) at.2 h
