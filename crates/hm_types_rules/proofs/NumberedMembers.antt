-- The schema that a form is written as has the members of the form.
use Rattle.std.proofs.Common.{◌≡◌, ℕ, zero, suc, List, [], ◌∷◌, ◌++◌, map, slice_get, Option, Some, All, refl, sym, ap, subst, ◌∙◌, arith}
use Rattle.std.specs.List.{AllZip}
use Rattle.std.proofs.lemmas.Option.{same_Some, none-some}
use Rattle.std.proofs.lemmas.List.Elements.{All-head, All-tail, All-nil, All-cons}
use Rattle.hm_tree.specs.declared.class.Class.{Class}
use Rattle.hm_tree.specs.Names.{Name}
use Rattle.hm_schema.specs.declared.node.NodeId.{NodeId}
use Rattle.hm_schema.specs.Values.{NodeValue, SchemaValue}
use Rattle.hm_schema.specs.Tidied.{tidied}
use Rattle.hm_schema.specs.Sameness.{HaveEqual, AreOthers, no_others, others, Match}
use Rattle.hm_schema.specs.WellFormed.{IsWellFormed}
use Rattle.hm_schema.proofs.Lists.{all_read}
use Rattle.hm_schema.proofs.References.{well_formed_at}
use Rattle.hm_schema.specs.Standing.{Alike}
use Rattle.hm_schema.proofs.SameNodes.{IsMatched, matched_alike}
use Rattle.hm_schema.proofs.StandingTrees.{Inside, members_alike as place_alike, alike_then}
use Rattle.hm_types_forms.specs.Forms.{Form}
use Rattle.hm_types_forms.specs.Members.{Member}
use Rattle.hm_types_forms.specs.Sound.{IsSound}
use Rattle.hm_types_rules.specs.Numbering.{Visits, done, again, first, other_forms, IsNumberOf, StandsFor, IsNumbered}
use Rattle.hm_types_forms.proofs.MemberNodes.{members_alike}
use Rattle.hm_types_forms.proofs.SameForms.{same_itself}
use Rattle.hm_types_forms.proofs.SameMembers.{sound_same}
use Rattle.hm_types_forms.proofs.SoundForms.{node_sound}
use Rattle.hm_types_rules.proofs.Distinct.{distinct_equal}
use Rattle.hm_types_rules.proofs.NumberedNodes.{node_tidied}
use Rattle.hm_types_rules.proofs.SoundVisits.{children_sound, other_sound, visits_sound}

zip_at : (order : List Form) (ns : List NodeValue) (us : List Form) → AllZip (StandsFor order) ns us → (i : ℕ) (u : Form) → slice_get us i ≡ Some u
    → (n : NodeValue) × (slice_get ns i ≡ Some n) × StandsFor order n u
zip_at order [] [] z i u e = absurd (none-some u e)
zip_at order [] (v ∷ us) z i u e = absurd z
zip_at order (n ∷ ns) [] z i u e = absurd z
zip_at order (n ∷ ns) (v ∷ us) z zero u e = (n, refl, subst (StandsFor order n) (same_Some v u e) z.0)
zip_at order (n ∷ ns) (v ∷ us) z (suc i) u e = zip_at order ns us z.1 i u e

module _ (u : Form) (s : SchemaValue) (well : IsWellFormed s) (sound : IsSound u) (h : IsNumbered u s) where
  all_sound : All IsSound h.order
  all_sound = visits_sound h.visits (All-nil IsSound) (All-cons IsSound u [] sound (All-nil IsSound))

  -- a sound form, and its number
  record IsSoundNumber (v : Form) (j : NodeId) : Type 0 where
    number : IsNumberOf h.order v j
    first : IsSound v

  visited_sound : (v : Form) (j : NodeId) (n : IsNumberOf h.order v j) → IsSound n.visited
  visited_sound v j n = all_read IsSound h.order j.place n.visited n.is all_sound

  sound_children : (cs : List (Name × Form)) (ds : List (Name × NodeId)) → All IsSound (map (λ (c : Name × Form). c.1) cs)
      → AllZip (λ c d. (c.0 ≡ d.0) × IsNumberOf h.order c.1 d.1) cs ds → AllZip (λ c d. (c.0 ≡ d.0) × IsSoundNumber c.1 d.1) cs ds
  sound_children [] [] all z = tt
  sound_children [] (d ∷ ds) all z = absurd z
  sound_children (c ∷ cs) [] all z = absurd z
  sound_children (c ∷ cs) (d ∷ ds) all z = (
    (z.0.0, record { number = z.0.1; first = All-head IsSound c.1 (map (λ (c : Name × Form). c.1) cs) all }),
    sound_children cs ds (All-tail IsSound c.1 (map (λ (c : Name × Form). c.1) cs) all) z.1,
  )

  sound_other : {o : Option (Class × Form)} {p : Option (Class × NodeId)} → All IsSound (other_forms o) → AreOthers (IsNumberOf h.order) o p
      → AreOthers IsSoundNumber o p
  sound_other all no_others = no_others
  sound_other all (others {i = v} r) = others (record { number = r; first = All-head IsSound v [] all })

  matched : (v : Form) (j : NodeId) → IsSoundNumber v j → IsMatched IsSoundNumber Member (Inside s) v j
  matched v j r =
      let w = r.number.visited in
      let w_sound = visited_sound v j r.number in
      let z = zip_at h.order s.nodes h.order h.nodes j.place w r.number.is in
      let st = z.2 in
      record {
        first = st.node;
        second = z.0;
        stands_first = alike_then (sound_same v w (record { same = r.number.same; first = r.first; second = w_sound })) (members_alike w st.node st.is);
        stands_second = place_alike s j z.0 z.1;
        well_first = (node_sound w st.node st.is w_sound).well;
        well_second = (well_formed_at s j z.0 well z.1).shapes;
        match = subst (λ n. Match IsSoundNumber (tidied st.node) n) (sym (node_tidied h.order z.0 w st)) (record {
          shapes = distinct_equal st.node.shapes z.0.shapes st.shapes;
          children = sound_children (tidied st.node).children z.0.children (children_sound w st.node st.is w_sound) st.children;
          other = sound_other (other_sound w st.node st.is w_sound) st.other;
          twins = subst (λ t. HaveEqual st.node.twins t) (sym st.twins) (λ x. (λ c. c, λ c. c));
        });
      }

  -- the root stands for the form itself
  root_number : IsNumberOf h.order u s.root
  root_number = go h.order h.visits
    where
      kept : {seen todo all : List Form} → Visits seen todo all → (v : Form) → slice_get seen 0 ≡ Some v → slice_get all 0 ≡ Some v
      kept done v e = e
      kept (again c t g) v e = kept g v e
      kept (first {u = x} {seen = seen} none is g) v e = kept g v (longer seen x v e)
        where
          longer : (xs : List Form) (x v : Form) → slice_get xs 0 ≡ Some v → slice_get (xs ++ x ∷ []) 0 ≡ Some v
          longer [] x v e = absurd (none-some v e)
          longer (y ∷ xs) x v e = e

      go : (order : List Form) → Visits [] (u ∷ []) order → IsNumberOf order u s.root
      go order (again {v = v} c t g) = absurd (let lt = c.1 in omega arith)
      go order (first none is g) = record { visited = u; is = ap (slice_get order) h.root ∙ kept g u refl; same = same_itself u }

  pub numbered_members : Alike (Member u) (Inside s s.root)
  numbered_members = matched_alike IsSoundNumber Member (Inside s) matched u s.root (record { number = root_number; first = sound })
