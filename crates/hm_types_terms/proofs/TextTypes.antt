-- Text lenses by their names: the classes between which they go, and the first one that isn't there.
use Rattle.std.proofs.Common.{◌≡◌, ℕ, zero, suc, ◌+◌, Bool, true, false, not, cond, is_some, IsSome, List, [], ◌∷◌, ◌++◌, map, take, drop, find, slice_get, append_assoc, Option, Some, None, All, refl, sym, ap, subst, ◌∙◌, arith}
use Rattle.std.specs.Option.{option_map, option_or}
use Rattle.std.specs.Ordering.{eq_by_cmp}
use Rattle.std.proofs.lemmas.Bool.{true≢false}
use Rattle.std.proofs.lemmas.Option.{none-some, same_Some, slice_get_within, get_or_from_slice_get}
use Rattle.std.proofs.lemmas.List.{drop_more, take_more, map-append}
use Rattle.std.proofs.lemmas.List.Folds.{find-append}
use Rattle.std.proofs.lemmas.List.Elements.{All-nil, All-head, All-tail, All-append, All-push}
use Rattle.hm_tree.specs.declared.class.Class.{Class}
use Rattle.hm_tree.specs.Names.{Name, name_cmp}
use Rattle.hm_text_lens.specs.Meanings.{TextMeaning, IsLawful}
use Rattle.hm_text_lens.specs.Naming.{first_named}
use Rattle.hm_terms.specs.declared.term.Definition.{Definition}
use Rattle.hm_terms.specs.declared.term.Term.{Term}
use Rattle.hm_terms.specs.Programs.{lens_of, lenses_of, definition_value}
use Rattle.hm_types_rules.specs.Typing.{Classes}
use Rattle.hm_types_rules.specs.TextNames.{text_names, text_names_of, body_text_names, AreKnown, IsFirstUnknown}
use Rattle.hm_types_rules.specs.Programs.{classes_in}
use Rattle.hm_types_terms.specs.declared.texts.TextType.{TextType}
use Rattle.hm_types_terms.specs.Courses.{classes_of}
use Rattle.hm_types_terms.specs.TextTypes.{text_type, first_unknown}

-- the types of text lenses have the classes of these
pub classes_same : (ms : List TextMeaning) → classes_of (map text_type ms) ≡ classes_in ms
classes_same ms = λ i x. at x ms i
  where
    at : (x : Name) (ms : List TextMeaning) → classes_of (map text_type ms) x ≡ classes_in ms x
    at x [] = refl
    at x (m ∷ ms) = go (eq_by_cmp name_cmp x m.name) (at x ms)
      where
        go : (b : Bool) → classes_of (map text_type ms) x ≡ classes_in ms x
            → option_map (λ t. (t.from, t.into)) (cond b (Some (text_type m)) (find (λ t. eq_by_cmp name_cmp x t.name) (map text_type ms)))
            ≡ option_map {U = Class × Class} (λ (m : TextMeaning). (m.from_class, m.into_class)) (cond b (Some m) (first_named x ms))
        go true e = refl
        go false e = e

drop_at : {X : Type 0} (xs : List X) (i : ℕ) (x : X) → slice_get xs i ≡ Some x → drop i xs ≡ x ∷ drop (i + 1) xs
drop_at xs i x at = drop_more xs i x (slice_get_within xs i x at) ∙ ap (λ y. y ∷ drop (i + 1) xs) (get_or_from_slice_get xs i x x at)

take_at : {X : Type 0} (xs : List X) (i : ℕ) (x : X) → slice_get xs i ≡ Some x → take (i + 1) xs ≡ take i xs ++ x ∷ []
take_at xs i x at = take_more xs i x (slice_get_within xs i x at) ∙ ap (λ y. take i xs ++ y ∷ []) (get_or_from_slice_get xs i x x at)

-- the types and the laws of the first ones, and of one more
module _ {B : Type 0} (xs : List B) (m : B → TextMeaning) (i : ℕ) (x : B) (at : slice_get xs i ≡ Some x) where
  pub types_next : (old new : List TextType) (t : TextType) → old ≡ map text_type (map m (take i xs)) → t ≡ text_type (m x) → new ≡ old ++ t ∷ []
      → new ≡ map text_type (map m (take (i + 1) xs))
  types_next old new t e is put = put ∙ (λ j. e j ++ is j ∷ [])
      ∙ sym (map-append text_type (map m (take i xs)) (m x ∷ [])) ∙ ap (map text_type) (sym (map-append m (take i xs) (x ∷ [])))
      ∙ ap (λ r. map text_type (map m r)) (sym (take_at xs i x at))

  pub lawful_next : All IsLawful (map m (take i xs)) → IsLawful (m x) → All IsLawful (map m (take (i + 1) xs))
  lawful_next all one = subst (λ r. All IsLawful (map m r)) (sym (take_at xs i x at))
      (subst (All IsLawful) (sym (map-append m (take i xs) (x ∷ []))) (All-push IsLawful (map m (take i xs)) (m x) all one))

-- ---- the first name that isn't known

module _ (texts : Classes) where
  more_known : (x : Name) (names : List Name) → IsSome (texts x) → AreKnown texts names → AreKnown texts (x ∷ names)
  more_known x names one rest = All-append (λ x. IsSome (texts x)) (x ∷ []) names (all_one x one) rest
    where
      all_one : (x : Name) → IsSome (texts x) → AreKnown texts (x ∷ [])
      all_one x one zero d lt = one
      all_one x one (suc i) d lt = absurd (omega (arith, lt))

  pub all_known : (names : List Name) → first_unknown texts names ≡ None → AreKnown texts names
  all_known [] e = All-nil (λ x. IsSome (texts x))
  all_known (x ∷ names) e = go (texts x) refl e (all_known names)
    where
      go : (o : Option (Class × Class)) → texts x ≡ o → cond (not (is_some o)) (Some x) (first_unknown texts names) ≡ None
          → (first_unknown texts names ≡ None → AreKnown texts names) → AreKnown texts (x ∷ names)
      go None f g rest = absurd (none-some x (sym g))
      go (Some c) f g rest = more_known x names (ap is_some f) (rest g)

  pub is_first_unknown : (names : List Name) (x : Name) → first_unknown texts names ≡ Some x → IsFirstUnknown texts names x
  is_first_unknown [] x e = absurd (none-some x e)
  is_first_unknown (y ∷ names) x e = go (texts y) refl e (is_first_unknown names x)
    where
      go : (o : Option (Class × Class)) → texts y ≡ o → cond (not (is_some o)) (Some y) (first_unknown texts names) ≡ Some x
          → (first_unknown texts names ≡ Some x → IsFirstUnknown texts names x) → IsFirstUnknown texts (y ∷ names) x
      go None f g later = record {
        before = [];
        after = names;
        names_are = ap (λ y. y ∷ names) (same_Some y x g);
        known = All-nil (λ x. IsSome (texts x));
        unknown = ap texts (sym (same_Some y x g)) ∙ f;
      }
      go (Some c) f g later =
          let rest = later g in
          record {
            before = y ∷ rest.before;
            after = rest.after;
            names_are = ap (λ l. y ∷ l) rest.names_are;
            known = more_known y rest.before (ap is_some f) rest.known;
            unknown = rest.unknown;
          }

  -- where all names are known, none is the first that isn't
  pub known_names : (names : List Name) (x : Name) → AreKnown texts names → IsFirstUnknown texts names x → ⊥
  known_names names x known f = go f.before (subst (AreKnown texts) f.names_are known)
    where
      go : (before : List Name) → AreKnown texts (before ++ x ∷ f.after) → ⊥
      go [] all = absurd (true≢false (sym (All-head (λ x. IsSome (texts x)) x f.after all) ∙ ap is_some f.unknown))
      go (y ∷ before) all = go before (All-tail (λ x. IsSome (texts x)) y (before ++ x ∷ f.after) all)

  -- ---- in two lists, and in the rows and definitions from a place on

  pub in_first : (xs ys : List Name) (x : Name) → first_unknown texts xs ≡ Some x → first_unknown texts (xs ++ ys) ≡ Some x
  in_first xs ys x e = find-append (λ x. not (is_some (texts x))) xs ys ∙ ap (λ o. option_or o (first_unknown texts ys)) e

  pub in_second : (xs ys : List Name) → first_unknown texts xs ≡ None → first_unknown texts (xs ++ ys) ≡ first_unknown texts ys
  in_second xs ys e = find-append (λ x. not (is_some (texts x))) xs ys ∙ ap (λ o. option_or o (first_unknown texts ys)) e

  abbrev pub rows_from : List (Name × Term) → ℕ → List Name
  rows_from rows i = text_names_of (lenses_of (drop i rows))

  module _ (rows : List (Name × Term)) (i : ℕ) (row : Name × Term) (at : slice_get rows i ≡ Some row) where
    from_row : rows_from rows i ≡ text_names (lens_of row.1) ++ rows_from rows (i + 1)
    from_row = ap (λ r. text_names_of (lenses_of r)) (drop_at rows i row at)

    pub row_found : (x : Name) → first_unknown texts (text_names (lens_of row.1)) ≡ Some x → first_unknown texts (rows_from rows i) ≡ Some x
    row_found x e = ap (first_unknown texts) from_row ∙ in_first (text_names (lens_of row.1)) (rows_from rows (i + 1)) x e

    pub row_passed : first_unknown texts (text_names (lens_of row.1)) ≡ None → first_unknown texts (rows_from rows i) ≡ first_unknown texts (rows_from rows (i + 1))
    row_passed e = ap (first_unknown texts) from_row ∙ in_second (text_names (lens_of row.1)) (rows_from rows (i + 1)) e

  abbrev pub bodies_from : List Definition → List Name → ℕ → List Name
  bodies_from ds main i = body_text_names (map definition_value (drop i ds)) ++ main

  module _ (ds : List Definition) (main : List Name) (i : ℕ) (d : Definition) (at : slice_get ds i ≡ Some d) where
    from_body : bodies_from ds main i ≡ text_names (lens_of d.body) ++ bodies_from ds main (i + 1)
    from_body = ap (λ ds. body_text_names (map definition_value ds) ++ main) (drop_at ds i d at)
        ∙ append_assoc (text_names (lens_of d.body)) (body_text_names (map definition_value (drop (i + 1) ds))) main

    pub body_found : (x : Name) → first_unknown texts (text_names (lens_of d.body)) ≡ Some x → first_unknown texts (bodies_from ds main i) ≡ Some x
    body_found x e = ap (first_unknown texts) from_body ∙ in_first (text_names (lens_of d.body)) (bodies_from ds main (i + 1)) x e

    pub body_passed : first_unknown texts (text_names (lens_of d.body)) ≡ None
        → first_unknown texts (bodies_from ds main i) ≡ first_unknown texts (bodies_from ds main (i + 1))
    body_passed e = ap (first_unknown texts) from_body ∙ in_second (text_names (lens_of d.body)) (bodies_from ds main (i + 1)) e
