-- Ways of calls by names are ways of calls by places.
use Rattle.std.proofs.Common.{◌≡◌, ◌↔◌, ℕ, ◌||◌, Bool, false, Vec, List, get_or, slice_get, Option, Some, None, refl, sym, ap, subst, ◌∙◌, arith}
use Rattle.std.specs.List.{Contains}
use Rattle.std.specs.declared.alloc.Global.{Global}
use Rattle.std.specs.FinMap.{find}
use Rattle.std.proofs.Math.Bool.{or_assoc}
use Rattle.std.proofs.lemmas.Option.{same_Some, slice_get-get_or, slice_get_within}
use Rattle.std.proofs.lemmas.List.Elements.{Contains-get_or}
use Rattle.hm_tree.specs.Names.{Name, name_cmp}
use Rattle.hm_terms.specs.declared.term.Definition.{Definition}
use Rattle.hm_terms.specs.Lenses.{Lens, Definitions, body_of}
use Rattle.hm_terms.specs.Programs.{lens_of}
use Rattle.hm_terms.specs.Calls.{Calls, Way, one_call, more_calls, IsInBadCycle}
use Rattle.hm_terms_cycles.specs.declared.call.Call.{Call}
use Rattle.hm_terms_cycles.specs.Calls.{behind, Callees, items_of, calls_from, IsClosed, Leads, by_one, by_more, ComesBackBadly}
use Rattle.hm_terms_cycles.specs.Places.{names_by, ArePlaces}
use Rattle.hm_terms_cycles.specs.Callees.{IsCallIn, AreCallees}
use Rattle.hm_terms_cycles.proofs.Elements.{some_within}
use Rattle.hm_terms_cycles.proofs.Defined.{values_of, IsDefined, found_defined, found_below, body_found}

-- ---- ways by names

module _ (ds : Definitions) where
  -- one call more, at the end
  way_and : {n m o : Name} {s c : Bool} (l : Lens) (t d : Bool) → Way ds n m s c → body_of ds m ≡ Some l → Calls l t d o → Way ds n o (s || t) (c || d)
  way_and l t d (one_call e h) f j = more_calls e h (one_call f j)
  way_and {n} {o = o} l t d (more_calls {s = s} {c = c} {t = u} {d = v} e h w) f j =
      subst (λ s. Way ds n o s ((c || v) || d)) (sym (or_assoc s u t))
      (subst (λ c. Way ds n o (s || (u || t)) c) (sym (or_assoc c v d)) (more_calls e h (way_and l t d w f j)))

  pub way_body : {n o : Name} {s c : Bool} → Way ds n o s c → (l : Lens) × (body_of ds n ≡ Some l)
  way_body (one_call {l = l} e h) = (l, e)
  way_body (more_calls {l = l} e h w) = (l, e)

module _ (ds : List Definition) (places : List (Name × ℕ)) (g : Callees) (so : ArePlaces (names_by ds) places) (are : AreCallees ds places g) where
  -- a definition has the calls of its body
  module _ (n : Name) (i : ℕ) (at : find name_cmp n places ≡ Some i) where
    is_defined : IsDefined ds n i
    is_defined = found_defined ds places so n i at

    calls_of_body : (x : Call) → Contains (calls_from g i) x ↔ IsCallIn places false false (lens_of is_defined.definition.body) x
    calls_of_body x = are.each i is_defined.definition is_defined.there x

    has_call : (l : Lens) (s c : Bool) (m : Name) (j : ℕ) → body_of (values_of ds) n ≡ Some l → Calls l s c m → find name_cmp m places ≡ Some j
        → Contains (calls_from g i) (record { place = j; sequence = s; children = c })
    has_call l s c m j e h to = (calls_of_body (record { place = j; sequence = s; children = c })).1 (record {
      name = m;
      there = to;
      in_sequence = s;
      in_children = c;
      calls = subst (λ l. Calls l s c m) (same_Some _ _ (sym e ∙ is_defined.body)) h;
      is_sequence = refl;
      is_children = refl;
    })

  -- each call is one of a body
  record IsCalled (k : ℕ) (x : Call) : Type 0 where
    definition : Definition
    there : slice_get ds k ≡ Some definition
    called : IsCallIn places false false (lens_of definition.body) x

  called_there : (k : ℕ) (x : Call) → Contains (calls_from g k) x → IsCalled k x
  called_there k x h = go (slice_get g k) refl h
    where
      go : (v : Option (Vec Call Global)) → slice_get g k ≡ v → Contains (items_of v) x → IsCalled k x
      go None e there = absurd (omega (arith, there.1))
      go (Some v) e there =
          let d = some_within ds k (omega (arith, slice_get_within g k v e, are.size)) in
          record { definition = d.0; there = d.1; called = (are.each k d.0 d.1 x).0 h }

  called_place : (i : ℕ) {x : Call} → Leads g i x → (n : Name) × (find name_cmp n places ≡ Some x.place)
  called_place i (by_one {x = x} h) = let c = called_there i x h in (c.called.name, c.called.there)
  called_place i (by_more {x = x} {y = y} w h) = let c = called_there x.place y h in (c.called.name, c.called.there)

  pub closed : IsClosed g
  closed k v lt j x below =
      let calls : calls_from g k ≡ (get_or g k v).items = ap items_of (slice_get-get_or g k v lt) in
      let y = get_or (get_or g k v).items j x in
      let c = called_there k y (subst (λ l. Contains l y) (sym calls) (Contains-get_or (get_or g k v).items j x below)) in
      omega (arith, found_below ds places so c.called.name y.place c.called.there, are.size)

  -- ---- from places to names

  -- a way leads to a definition
  record LeadsTo (n : Name) (x : Call) : Type 0 where
    name : Name
    there : find name_cmp name places ≡ Some x.place
    way : Way (values_of ds) n name x.sequence x.children

  leads_to : (n : Name) (i : ℕ) → find name_cmp n places ≡ Some i → {x : Call} → Leads g i x → LeadsTo n x
  leads_to n i at (by_one {x = x} h) =
      let c = (calls_of_body n i at x).0 h in
      let way = one_call (is_defined n i at).body c.calls in
      record {
        name = c.name;
        there = c.there;
        way = subst (λ s. Way (values_of ds) n c.name s x.children) (sym c.is_sequence)
            (subst (λ d. Way (values_of ds) n c.name c.in_sequence d) (sym c.is_children) way);
      }
  leads_to n i at (by_more {x = x} {y = y} w h) =
      let to = leads_to n i at w in
      let c = (calls_of_body to.name x.place to.there y).0 h in
      let way = way_and (values_of ds) _ c.in_sequence c.in_children to.way (is_defined to.name x.place to.there).body c.calls in
      record {
        name = c.name;
        there = c.there;
        way = subst (λ s. Way (values_of ds) n c.name (x.sequence || s) (x.children || y.children)) (sym c.is_sequence)
            (subst (λ d. Way (values_of ds) n c.name (x.sequence || c.in_sequence) (x.children || d)) (sym c.is_children) way);
      }

  -- ---- from names to places

  -- ways go on from x, as from the end of a way or from the start
  GoesOn : ℕ → Call → Type 0
  GoesOn i x = (y : Call) → Contains (calls_from g x.place) y → Leads g i (behind x y)

  way_leads : (i : ℕ) {n o : Name} {s c : Bool} → Way (values_of ds) n o s c → (x : Call) → GoesOn i x → find name_cmp n places ≡ Some x.place
      → (j : ℕ) → find name_cmp o places ≡ Some j → Leads g i (record { place = j; sequence = x.sequence || s; children = x.children || c })
  unfolding GoesOn
  way_leads i {n} {o} (one_call {l = l} {s = s} {c = c} e h) x on at j to =
      on (record { place = j; sequence = s; children = c }) (has_call n x.place at l s c o j e h to)
  way_leads i {n} {o} (more_calls {m = m} {l = l} {s = s} {c = c} {t = t} {d = d} e h w) x on at j to =
      let b = way_body (values_of ds) w in
      let k = body_found ds places so m b.0 b.1 in
      let y = behind x (record { place = k.0; sequence = s; children = c }) in
      let lead = on (record { place = k.0; sequence = s; children = c }) (has_call n x.place at l s c m k.0 e h k.1) in
      subst (λ s. Leads g i (record { place = j; sequence = s; children = x.children || (c || d) })) (or_assoc x.sequence s t)
      (subst (λ c. Leads g i (record { place = j; sequence = (x.sequence || s) || t; children = c })) (or_assoc x.children c d)
      (way_leads i w y (λ z there. by_more lead there) k.1 j to))

  -- ---- cycles

  -- a name has one place, and a place one name
  one_name : (n m : Name) (i : ℕ) → find name_cmp n places ≡ Some i → find name_cmp m places ≡ Some i → n ≡ m
  one_name n m i e f =
      let d = is_defined n i e in
      let b = is_defined m i f in
      sym d.named ∙ ap (λ (d : Definition). d.name) (same_Some _ _ (sym d.there ∙ b.there)) ∙ b.named

  pub bad_back : (n : Name) (i : ℕ) → find name_cmp n places ≡ Some i → IsInBadCycle (values_of ds) n → ComesBackBadly g i
  unfolding GoesOn
  bad_back n i at h = record {
    way = record { place = i; sequence = h.sequence; children = h.children };
    leads = way_leads i h.way (record { place = i; sequence = false; children = false }) (λ y there. by_one there) at i at;
    bad = (refl, h.bad);
  }

  -- a definition that a way comes back to has the first place of a name, and this is in a bad cycle
  pub record IsBadPlace (i : ℕ) : Type 0 where
    pub name : Name
    pub there : find name_cmp name places ≡ Some i
    pub bad : IsInBadCycle (values_of ds) name

  pub back_bad : (i : ℕ) → ComesBackBadly g i → IsBadPlace i
  back_bad i b =
      let c = called_place i b.leads in
      let at : find name_cmp c.0 places ≡ Some i = c.1 ∙ ap Some b.bad.0 in
      let to = leads_to c.0 i at b.leads in
      let same : to.name ≡ c.0 = one_name to.name c.0 b.way.place to.there c.1 in
      record {
        name = c.0;
        there = at;
        bad = record {
          sequence = b.way.sequence;
          children = b.way.children;
          way = subst (λ m. Way (values_of ds) c.0 m b.way.sequence b.way.children) same to.way;
          bad = b.bad.1;
        };
      }
