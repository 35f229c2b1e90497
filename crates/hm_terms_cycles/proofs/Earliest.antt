-- The first definition that a bad way comes back to is the first one in a bad cycle.
use Rattle.std.proofs.Common.{◌≡◌, ℕ, ◌<◌, ◌≤◌, List, map, length, slice_get, Option, Some, None, refl, sym, ap, subst, ◌∙◌, arith}
use Rattle.std.specs.Option.{option_map}
use Rattle.std.specs.FinMap.{find}
use Rattle.std.proofs.lemmas.Option.{slice_get-map}
use Rattle.hm_tree.specs.Names.{Name, name_cmp}
use Rattle.hm_terms.specs.declared.term.Definition.{Definition}
use Rattle.hm_terms.specs.declared.term.Program.{Program}
use Rattle.hm_terms.specs.Lenses.{DefinitionValue}
use Rattle.hm_terms.specs.Programs.{definition_value, program_value}
use Rattle.hm_terms.specs.Calls.{IsInBadCycle}
use Rattle.hm_terms_cycles.specs.Calls.{Callees, IsClosed, ComesBackBadly}
use Rattle.hm_terms_cycles.specs.Places.{names_by, ArePlaces}
use Rattle.hm_terms_cycles.specs.Callees.{AreBelow, AreCallees}
use Rattle.hm_terms_cycles.specs.BadCycles.{IsFirstInBadCycle}
use Rattle.hm_terms_cycles.proofs.Defined.{found_defined, found_below, body_found, first_place}
use Rattle.hm_terms_cycles.proofs.Leading.{way_body, closed, bad_back, back_bad}

-- no bad way comes back to one of the first definitions
abbrev pub NoneBefore : Callees → ℕ → Type 0
NoneBefore g i = (j : ℕ) → j < i → ¬ (ComesBackBadly g j)

-- what is known of a program: the places of its definitions, and their calls
pub record IsKnown (p : Program) (places : List (Name × ℕ)) (g : Callees) : Type 0 where
  named : ArePlaces (names_by p.definitions.items) places
  called : AreCallees p.definitions.items places g

-- as the code reads the definitions and the places, each time
pub known : (p : Program) (ds es : List Definition) (places qs : List (Name × ℕ)) (g : Callees) → ds ≡ p.definitions.items
    → ArePlaces (names_by ds) places → es ≡ p.definitions.items → qs ≡ places → AreCallees es qs g → IsKnown p places g
known p ds es places qs g is_ds so is_es is_qs are = record {
  named = subst (λ ds. ArePlaces (names_by ds) places) is_ds so;
  called = subst (λ ds. AreCallees ds places g) is_es (subst (λ ps. AreCallees es ps g) is_qs are);
}

pub known_below : (ds es : List Definition) (places qs : List (Name × ℕ)) → ds ≡ es → qs ≡ places → ArePlaces (names_by ds) places
    → AreBelow (length es) qs
known_below ds es places qs is_es is_qs so n i e = omega (arith, found_below ds places so n i (ap (find name_cmp n) (sym is_qs) ∙ e), ap length is_es)

module _ (p : Program) (places : List (Name × ℕ)) (g : Callees) (k : IsKnown p places g) where
  pub known_closed : (calls : Callees) → calls ≡ g → IsClosed calls
  known_closed calls is = subst IsClosed (sym is) (closed p.definitions.items places g k.named k.called)

  place_of_bad : (n : Name) → IsInBadCycle (program_value p).definitions n → (i : ℕ) × (find name_cmp n places ≡ Some i)
  place_of_bad n h = let b = way_body (program_value p).definitions h.way in body_found p.definitions.items places k.named n b.0 b.1

  -- the names of the definitions are the names of their values
  named_alike : (i : ℕ) → slice_get (map (λ (d : Name × DefinitionValue). d.0) (program_value p).definitions) i ≡ slice_get (names_by p.definitions.items) i
  named_alike i =
      let value = λ (d : Name × DefinitionValue). d.0 in
      slice_get-map value (map definition_value p.definitions.items) i ∙ ap (option_map value) (slice_get-map definition_value p.definitions.items i)
      ∙ both (slice_get p.definitions.items i) ∙ sym (slice_get-map (λ (d : Definition). d.name) p.definitions.items i)
    where
      both : (o : Option Definition) → option_map (λ (d : Name × DefinitionValue). d.0) (option_map definition_value o)
          ≡ option_map (λ (d : Definition). d.name) o
      both None = refl
      both (Some d) = refl

  pub none_bad : (i : ℕ) → length g ≤ i → NoneBefore g i → (n : Name) → ¬ (IsInBadCycle (program_value p).definitions n)
  none_bad i le none n h =
      let at = place_of_bad n h in
      none at.0 (omega (arith, found_below p.definitions.items places k.named n at.0 at.1, k.called.size, le))
      (bad_back p.definitions.items places g k.named k.called n at.0 at.1 h)

  pub first_bad : (i : ℕ) → NoneBefore g i → ComesBackBadly g i → IsFirstInBadCycle (program_value p) i
  first_bad i none b =
      let bad = back_bad p.definitions.items places g k.named k.called i b in
      let d = found_defined p.definitions.items places k.named bad.name i bad.there in
      record {
        name = bad.name;
        there = named_alike i ∙ slice_get-map (λ (d : Definition). d.name) p.definitions.items i
            ∙ ap (option_map (λ (d : Definition). d.name)) d.there ∙ ap Some d.named;
        bad = bad.bad;
        first = λ j n less at h.
            let at_n = place_of_bad n h in
            let first = first_place (names_by p.definitions.items) n at_n.0 j (sym (k.named.all n) ∙ at_n.1) (sym (named_alike j) ∙ at) in
            none at_n.0 (omega (arith, first, less)) (bad_back p.definitions.items places g k.named k.called n at_n.0 at_n.1 h);
      }
