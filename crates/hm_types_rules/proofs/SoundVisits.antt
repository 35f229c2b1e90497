-- The forms that are visited from a sound one are sound.
use Rattle.std.proofs.Common.{◌≡◌, Bool, true, false, cond, List, [], ◌∷◌, map, filter, Option, Some, None, All, refl, ap}
use Rattle.std.specs.Option.{option_map}
use Rattle.std.proofs.lemmas.List.Elements.{All-head, All-tail, All-nil, All-cons, All-append}
use Rattle.hm_tree.specs.declared.class.Class.{Class}
use Rattle.hm_tree.specs.Names.{Name}
use Rattle.hm_schema.specs.Values.{NodeOver}
use Rattle.hm_schema.specs.Tidied.{tidied, lets_some_in, stands}
use Rattle.hm_types_forms.specs.Forms.{Form, Step, named, node_of}
use Rattle.hm_types_forms.specs.Sound.{IsSound}
use Rattle.hm_types_rules.specs.Numbering.{Visits, done, again, first, forms_below, other_forms}
use Rattle.hm_types_forms.proofs.MemberNodes.{AllFound, all_found}
use Rattle.hm_types_forms.proofs.SoundForms.{node_sound, leads_sound}

module _ (u : Form) (n : NodeOver Form) (is : node_of u ≡ Some n) (h : IsSound u) where
  found : (cs : List (Name × Form)) → AllFound n.children cs → All IsSound (map (λ (c : Name × Form). c.1) cs)
  found [] f = All-nil IsSound
  found (c ∷ cs) f = All-cons IsSound c.1 (map (λ (c : Name × Form). c.1) cs) (leads_sound u n is h (named c.0) c.1 f.0) (found cs f.1)

  fewer : (p : Name → Bool) (cs : List (Name × Form)) → AllFound n.children cs → AllFound n.children (filter (λ (c : Name × Form). p c.0) cs)
  fewer p [] f = tt
  fewer p (c ∷ cs) f = go (p c.0) (fewer p cs f.1)
    where
      go : (b : Bool) → AllFound n.children (filter (λ (c : Name × Form). p c.0) cs)
          → AllFound n.children (cond b (c ∷ filter (λ (c : Name × Form). p c.0) cs) (filter (λ (c : Name × Form). p c.0) cs))
      go true g = (f.0, g)
      go false g = g

  whole : AllFound n.children n.children
  whole = all_found n.children (node_sound u n is h).ascending

  pub children_sound : All IsSound (map (λ (c : Name × Form). c.1) (tidied n).children)
  children_sound = go (lets_some_in n)
    where
      go : (b : Bool) → All IsSound (map (λ (c : Name × Form). c.1) (cond b n.children (filter (λ c. stands n c.0) n.children)))
      go true = found n.children whole
      go false = found (filter (λ c. stands n c.0) n.children) (fewer (stands n) n.children whole)

  one_sound : (o : Option (Class × Form)) → n.other ≡ o → All IsSound (other_forms o)
  one_sound None e = All-nil IsSound
  one_sound (Some o) e =
      All-cons IsSound o.1 [] (leads_sound u n is h Step.others o.1 (ap (option_map (λ (o : Class × Form). o.1)) e)) (All-nil IsSound)

  pub other_sound : All IsSound (other_forms (tidied n).other)
  other_sound = go (lets_some_in n)
    where
      go : (b : Bool) → All IsSound (other_forms (cond b n.other None))
      go true = one_sound n.other refl
      go false = All-nil IsSound

  all_sound_below : All IsSound (forms_below (tidied n))
  all_sound_below = All-append IsSound (map (λ (c : Name × Form). c.1) (tidied n).children) (other_forms (tidied n).other) children_sound other_sound

pub visits_sound : {seen todo all : List Form} → Visits seen todo all → All IsSound seen → All IsSound todo → All IsSound all
visits_sound done h g = h
visits_sound (again {u = u} {todo = todo} c s v) h g = visits_sound v h (All-tail IsSound u todo g)
visits_sound (first {u = u} {n = n} {seen = seen} {todo = todo} none is v) h g =
    let here = All-head IsSound u todo g in
    visits_sound v (All-append IsSound seen (u ∷ []) h (All-cons IsSound u [] here (All-nil IsSound)))
    (All-append IsSound (forms_below (tidied n)) todo (all_sound_below u n is here) (All-tail IsSound u todo g))
