-- The bodies of definitions, by the places of their names.
use Rattle.std.proofs.Common.{◌≡◌, ℕ, zero, suc, ◌≤◌, Bool, true, false, cond, List, [], ◌∷◌, map, length, Option, Some, None, slice_get, refl, sym, ap, subst, ◌∙◌, arith}
use mathlib.Core.Bool.{true≢false}
use Rattle.std.specs.Option.{option_map}
use Rattle.std.specs.Ordering.{eq_by_cmp}
use Rattle.std.specs.FinMap.{find}
use Rattle.std.proofs.lemmas.Option.{same_Some, none-some, slice_get_within}
use Rattle.hm_tree.specs.Names.{Name, name_cmp}
use Rattle.hm_schema.proofs.NamesOf.{tie_one}
use Rattle.hm_terms.specs.declared.term.Definition.{Definition}
use Rattle.hm_terms.specs.Lenses.{Lens, DefinitionValue, Definitions, body_of}
use Rattle.hm_terms.specs.Programs.{lens_of, definition_value}
use Rattle.hm_terms_laws.proofs.CallLists.{tied}
use Rattle.hm_terms_cycles.specs.Places.{names_by, place_in, ArePlaces}
use Rattle.hm_terms_cycles.specs.Callees.{AreBelow}

-- what contracts see of definitions
abbrev pub values_of : List Definition → Definitions
values_of ds = map definition_value ds

-- a definition stands at a place, the first one of its name
pub record IsDefined (ds : List Definition) (n : Name) (i : ℕ) : Type 0 where
  pub definition : Definition
  pub there : slice_get ds i ≡ Some definition
  pub named : definition.name ≡ n
  pub body : body_of (values_of ds) n ≡ Some (lens_of definition.body)

-- what holds of a definition holds of it behind another one
module _ (e : Definition) (ds : List Definition) (n : Name) where
  first_defined : eq_by_cmp name_cmp n e.name ≡ true → IsDefined (e ∷ ds) n 0
  first_defined t = record {
    definition = e;
    there = refl;
    named = sym (tie_one n e.name t);
    body = ap (λ b. option_map (λ (d : DefinitionValue). d.body) (cond b (Some (definition_value e).1) (find name_cmp n (map definition_value ds)))) t;
  }

  later_defined : eq_by_cmp name_cmp n e.name ≡ false → (i : ℕ) → IsDefined ds n i → IsDefined (e ∷ ds) n (suc i)
  later_defined f i d = record {
    definition = d.definition;
    there = d.there;
    named = d.named;
    body = ap (λ b. option_map (λ (d : DefinitionValue). d.body) (cond b (Some (definition_value e).1) (find name_cmp n (map definition_value ds)))) f
        ∙ d.body;
  }

pub defined_at : (ds : List Definition) (n : Name) (i : ℕ) → place_in (names_by ds) n ≡ Some i → IsDefined ds n i
defined_at [] n i e = absurd (none-some i e)
defined_at (d ∷ ds) n i e = go (eq_by_cmp name_cmp n d.name) refl (place_in (names_by ds) n) refl e (defined_at ds n)
  where
    go : (b : Bool) → eq_by_cmp name_cmp n d.name ≡ b → (o : Option ℕ) → place_in (names_by ds) n ≡ o
        → cond b (Some 0) (option_map suc (place_in (names_by ds) n)) ≡ Some i
        → ((j : ℕ) → place_in (names_by ds) n ≡ Some j → IsDefined ds n j) → IsDefined (d ∷ ds) n i
    go true t o f e rest = subst (IsDefined (d ∷ ds) n) (same_Some 0 i e) (first_defined d ds n t)
    go false t None f e rest = absurd (none-some i (sym (ap (option_map suc) f) ∙ e))
    go false t (Some j) f e rest =
        subst (IsDefined (d ∷ ds) n) (same_Some (suc j) i (sym (ap (option_map suc) f) ∙ e)) (later_defined d ds n t j (rest j f))

-- a name with a body has a place
pub has_place : (ds : List Definition) (n : Name) (l : Lens) → body_of (values_of ds) n ≡ Some l → (i : ℕ) × (place_in (names_by ds) n ≡ Some i)
has_place [] n l e = absurd (none-some l e)
has_place (d ∷ ds) n l e = go (eq_by_cmp name_cmp n d.name) e (has_place ds n l)
  where
    go : (b : Bool) → option_map (λ (d : DefinitionValue). d.body) (cond b (Some (definition_value d).1) (find name_cmp n (map definition_value ds))) ≡ Some l
        → (body_of (values_of ds) n ≡ Some l → (i : ℕ) × (place_in (names_by ds) n ≡ Some i))
        → (i : ℕ) × (cond b (Some 0) (option_map suc (place_in (names_by ds) n)) ≡ Some i)
    go true e rest = (0, refl)
    go false e rest = let r = rest e in (suc r.0, ap (option_map suc) r.1)

-- the place of a name is the first one where it stands
pub first_place : (ks : List Name) (n : Name) (i j : ℕ) → place_in ks n ≡ Some i → slice_get ks j ≡ Some n → i ≤ j
first_place [] n i j e at = absurd (none-some i e)
first_place (k ∷ ks) n i j e at = go (eq_by_cmp name_cmp n k) refl (place_in ks n) refl e j at (first_place ks n)
  where
    go : (b : Bool) → eq_by_cmp name_cmp n k ≡ b → (o : Option ℕ) → place_in ks n ≡ o → cond b (Some 0) (option_map suc (place_in ks n)) ≡ Some i
        → (j : ℕ) → slice_get (k ∷ ks) j ≡ Some n → ((i j : ℕ) → place_in ks n ≡ Some i → slice_get ks j ≡ Some n → i ≤ j) → i ≤ j
    go true t o f e j at rest = let z = same_Some 0 i e in omega (arith, z)
    go false t None f e j at rest = absurd (none-some i (sym (ap (option_map suc) f) ∙ e))
    go false t (Some m) f e zero at rest =
        absurd (true≢false (sym (tied n) ∙ ap (eq_by_cmp name_cmp n) (sym (same_Some k n at)) ∙ t))
    go false t (Some m) f e (suc j) at rest =
        let less = rest m j f at in
        let is = same_Some (suc m) i (sym (ap (option_map suc) f) ∙ e) in
        omega (arith, less, is)

module _ (ds : List Definition) (places : List (Name × ℕ)) (so : ArePlaces (names_by ds) places) where
  pub found_defined : (n : Name) (i : ℕ) → find name_cmp n places ≡ Some i → IsDefined ds n i
  found_defined n i e = defined_at ds n i (sym (so.all n) ∙ e)

  pub found_below : AreBelow (length ds) places
  found_below n i e = let d = found_defined n i e in slice_get_within ds i d.definition d.there

  pub body_found : (n : Name) (l : Lens) → body_of (values_of ds) n ≡ Some l → (i : ℕ) × (find name_cmp n places ≡ Some i)
  body_found n l e = let p = has_place ds n l e in (p.0, so.all n ∙ p.1)
