-- The parts of a program, one line after another.
use Rattle.std.proofs.Common.{◌≡◌, ℕ, ◌+◌, ◌<◌, Bool, false, cond, List, [], ◌∷◌, ◌++◌, length, map, slice_get, count_by, filter_map, Option, Some, None, refl, sym, ap, ◌∙◌, subst, arith, append_assoc, Vec}
use Rattle.std.specs.declared.alloc.Global.{Global}
use Rattle.std.specs.Prelude.{MatchOption, IfSome, IsSome}
use Rattle.std.specs.List.{AllZip, Contains, cons_option}
use Rattle.std.proofs.lemmas.List.{map-append}
use Rattle.std.proofs.lemmas.Option.{slice_get_within}
use Rattle.std.proofs.lemmas.List.Elements.{filter_map-append}
use mathlib.Core.List.{append-nil}
use mathlib.Core.Bool.{true≢false}
use Rattle.hm_schema.specs.Values.{pair_value}
use Rattle.hm_terms.specs.declared.term.Term.{Term}
use Rattle.hm_terms.specs.declared.term.Definition.{Definition}
use Rattle.hm_terms.specs.Programs.{lens_of, definition_value}
use Rattle.hm_schema_lines.specs.Entries.{EntryValue}
use Rattle.hm_schema_lines.specs.FirstBad.{HasNoBad}
use Rattle.hm_schema_lines.proofs.Laws.{at_place, from_place, is_node}
use Rattle.hm_focal.specs.declared.own.FormatLine.{FormatLine}
use Rattle.hm_focal.specs.declared.program.Parts.{Parts}
use Rattle.hm_focal.specs.OwnLines.{BodyValue, term, oversized, LensValue, OwnValue, nothing, header, format, lens, main, is_format, is_main, body_in, lens_in}
use Rattle.hm_focal.specs.BadLines.{IsBadLine, names_no_source, names_no_view, too_large}
use Rattle.hm_focal.specs.LensFiles.{IsDefinitionOf}
use Rattle.hm_focal.specs.Building.{IsBuiltDefinition, AreNamed, IsTaken, AreBuilt}
use Rattle.hm_focal.proofs.Placing.{count_push, get_push, get_last}

module _ {X : Type 0} (xs : List X) (x : X) where
  kept_in : (y : X) → Contains xs y → Contains (xs ++ x ∷ []) y
  kept_in y c = let a = at_place xs y c in from_place (xs ++ x ∷ []) y (a.0, get_push xs x a.0 (within a.0 y a.1) ∙ a.1)
    where
      within : (i : ℕ) (z : X) → slice_get xs i ≡ Some z → i < length xs
      within i z e = slice_get_within xs i z e

  last_in : Contains (xs ++ x ∷ []) x
  last_in = from_place (xs ++ x ∷ []) x (length xs, get_last xs x (length xs) refl)

none_there : {X : Type 0} (m : Option X) → m ≡ None → IsSome m → ⊥
none_there None e h = true≢false (sym h)
none_there (Some x) e h = let f : ⊥ = cc in f

-- where the format line and the main line were found
abbrev HasFormat : List OwnValue → Option FormatLine → Type 0
HasFormat os m = MatchOption m (count_by is_format os ≡ 0) (λ f. Contains os (format f.word (map pair_value f.pairs.items)))

abbrev HasMain : List OwnValue → Option Term → Type 0
HasMain os m = MatchOption m (count_by is_main os ≡ 0) (λ t. Contains os (main (term (lens_of t))))

abbrev HasDefinitions : List EntryValue → List OwnValue → List Definition → Type 0
HasDefinitions es os ds = AllZip (IsDefinitionOf es) (filter_map lens_in os) (map definition_value ds)

-- what a line leaves as it is
module _ {X : Type 0} (k : OwnValue → Bool) (c : X → OwnValue) (os : List OwnValue) (o : OwnValue) where
  left : k o ≡ false → (m : Option X) → MatchOption m (count_by k os ≡ 0) (λ x. Contains os (c x))
      → MatchOption m (count_by k (os ++ o ∷ []) ≡ 0) (λ x. Contains (os ++ o ∷ []) (c x))
  left no_k None h = let m = count_push k os o ∙ ap (λ (z : Bool). count_by k os + cond z 1 0) no_k in omega (arith, h)
  left no_k (Some x) h = kept_in os o (c x) h

  new : (m : Option X) → IsSome m → IfSome m (λ x. c x ≡ o) → MatchOption m (count_by k (os ++ o ∷ []) ≡ 0) (λ x. Contains (os ++ o ∷ []) (c x))
  new None some h = let f : ⊥ = none_there {X = X} None refl some in absurd f
  new (Some x) some h = subst (λ (z : OwnValue). Contains (os ++ o ∷ []) z) (sym h) (last_in os o)

zip_push : {X Y : Type 0} (P : X → Y → Type 0) (xs : List X) (ys : List Y) (x : X) (y : Y) → AllZip P xs ys → P x y
    → AllZip P (xs ++ x ∷ []) (ys ++ y ∷ [])
zip_push P [] [] x y h p = (p, tt)
zip_push P [] (z ∷ ys) x y h p = absurd h
zip_push P (z ∷ xs) [] x y h p = absurd h
zip_push P (z ∷ xs) (w ∷ ys) x y h p = (h.0, zip_push P xs ys x y h.1 p)

module _ (es : List EntryValue) (os : List OwnValue) (o : OwnValue) where
  same_definitions : lens_in o ≡ None → (ds : List Definition) → AllZip (IsDefinitionOf es) (filter_map lens_in os) (map definition_value ds)
      → AllZip (IsDefinitionOf es) (filter_map lens_in (os ++ o ∷ [])) (map definition_value ds)
  same_definitions none ds h = subst (λ (z : List LensValue). AllZip (IsDefinitionOf es) z (map definition_value ds))
      (sym (filter_map-append lens_in os (o ∷ []) ∙ ap (λ z. filter_map lens_in os ++ cons_option z []) none ∙ append-nil (filter_map lens_in os))) h

  one_definition : (d : LensValue) → lens_in o ≡ Some d → (ds : List Definition) (v : Definition) → IsDefinitionOf es d (definition_value v)
      → AllZip (IsDefinitionOf es) (filter_map lens_in os) (map definition_value ds)
      → AllZip (IsDefinitionOf es) (filter_map lens_in (os ++ o ∷ [])) (map definition_value (ds ++ v ∷ []))
  one_definition d some ds v p h =
      subst (λ (z : List LensValue × List _). AllZip (IsDefinitionOf es) z.0 z.1)
      (λ i. (
        sym (filter_map-append lens_in os (o ∷ []) ∙ ap (λ z. filter_map lens_in os ++ cons_option z []) some) i,
        sym (map-append definition_value ds (v ∷ [])) i,
      ))
      (zip_push (IsDefinitionOf es) (filter_map lens_in os) (map definition_value ds) d (definition_value v) h p)

-- a format and a main line, by what they say
abbrev pub format_line : FormatLine → OwnValue
format_line f = format f.word (map pair_value f.pairs.items)

abbrev pub main_line : Term → OwnValue
main_line t = main (term (lens_of t))

-- a line behind others
behind_is : (os rest : List OwnValue) (o : OwnValue) → slice_get (os ++ o ∷ rest) (length os) ≡ Some o
behind_is [] rest o = refl
behind_is (p ∷ os) rest o = behind_is os rest o

module _ (es : List EntryValue) (front rest : List OwnValue) where
  pub named_here : (o : OwnValue) (whole : List OwnValue) → HasNoBad (IsBadLine es whole) → whole ≡ front ++ o ∷ rest → AreNamed es o
  named_here (lens d) whole sound is =
      let here : slice_get whole (length front) ≡ Some (lens d) = ap (λ z. slice_get z (length front)) is ∙ behind_is front rest (lens d) in (
        is_node es d.source (λ none. sound (length front) (names_no_source here none)),
        is_node es d.view (λ none. sound (length front) (names_no_view here none)),
      )
  named_here nothing whole sound is = tt
  named_here header whole sound is = tt
  named_here (format w ps) whole sound is = tt
  named_here (main b) whole sound is = tt

  module _ (o : OwnValue) (whole : List OwnValue) (sound : HasNoBad (IsBadLine es whole)) (is : whole ≡ front ++ o ∷ rest) where
    not_oversized : (b : BodyValue) → body_in o ≡ Some b → b ≡ oversized → ⊥
    not_oversized b body e = sound (length front)
        (too_large (o, ap (λ z. slice_get z (length front)) is ∙ behind_is front rest o, body ∙ ap Some e))

  -- a line that says nothing to the parts
  quiet : (o : OwnValue) → is_format o ≡ false → is_main o ≡ false → lens_in o ≡ None → (p : Parts) → AreBuilt es front p
      → AreBuilt es (front ++ o ∷ []) p
  quiet o no_format no_main no_lens p h = record {
    format = left is_format format_line front o no_format p.format h.format;
    definitions = same_definitions es front o no_lens p.definitions.items h.definitions;
    main = left is_main main_line front o no_main p.main h.main;
  }

  pub built_next : (o : OwnValue) (whole : List OwnValue) → HasNoBad (IsBadLine es whole) → whole ≡ front ++ o ∷ rest → (p q : Parts)
      → AreBuilt es front p → IsTaken es o p q → AreBuilt es (front ++ o ∷ []) q
  built_next nothing whole sound is p q h t = subst (AreBuilt es (front ++ nothing ∷ [])) t (quiet nothing refl refl refl p h)
  built_next header whole sound is p q h t = subst (AreBuilt es (front ++ header ∷ [])) t (quiet header refl refl refl p h)
  built_next (format w ps) whole sound is p q h t =
      let o : OwnValue = format w ps in
      record {
        format = new is_format format_line front o q.format t.1 (said q.format t.0);
        definitions = subst (λ (z : Vec Definition Global). HasDefinitions es (front ++ o ∷ []) z.items) t.2
            (same_definitions es front o refl p.definitions.items h.definitions);
        main = subst (HasMain (front ++ o ∷ [])) t.3
            (left is_main main_line front o refl p.main h.main);
      }
    where
      said : (m : Option FormatLine) → IfSome m (λ f. (f.word ≡ w) × (map pair_value f.pairs.items ≡ ps))
          → IfSome m (λ f. format_line f ≡ format w ps)
      said None k = tt
      said (Some f) k = λ i. format (k.0 i) (k.1 i)
  built_next (lens d) whole sound is p q h t = go t.0 t.1 t.2
    where
      o : OwnValue
      o = lens d

      go : (v : Option Definition) → IsBuiltDefinition es d v → q.definitions.items ≡ p.definitions.items ++ cons_option v []
          → AreBuilt es (front ++ lens d ∷ []) q
      go None k e = absurd (not_oversized (lens d) whole sound is d.body refl k)
      go (Some v) k e = record {
        format = subst (HasFormat (front ++ lens d ∷ []))
            t.3 (left is_format format_line front (lens d) refl p.format h.format);
        definitions = subst (HasDefinitions es (front ++ lens d ∷ [])) (sym e)
            (one_definition es front (lens d) d refl p.definitions.items v k h.definitions);
        main = subst (HasMain (front ++ lens d ∷ []))
            t.4 (left is_main main_line front (lens d) refl p.main h.main);
      }
  built_next (main (term l)) whole sound is p q h t = record {
    format = subst (HasFormat (front ++ main (term l) ∷ []))
        t.2 (left is_format format_line front (main (term l)) refl p.format h.format);
    definitions = subst (λ (z : Vec Definition Global). HasDefinitions es (front ++ main (term l) ∷ []) z.items) t.3
        (same_definitions es front (main (term l)) refl p.definitions.items h.definitions);
    main = new is_main main_line front (main (term l)) q.main t.1 (said q.main t.0);
  }
    where
      said : (m : Option Term) → IfSome m (λ t. lens_of t ≡ l) → IfSome m (λ t. main_line t ≡ main (term l))
      said None k = tt
      said (Some t) k = ap (λ z. main (term z)) k
  built_next (main oversized) whole sound is p q h t = absurd (not_oversized (main oversized) whole sound is oversized refl refl)

-- the parts by the lines that were taken, and the lines that are left
pub record IsTakenTo (es : List EntryValue) (whole rest : List OwnValue) (p : Parts) : Type 0 where
  pub front : List OwnValue
  pub is : whole ≡ front ++ rest
  pub built : AreBuilt es front p

module _ (es : List EntryValue) (whole : List OwnValue) where
  pub none_taken : (rest : List OwnValue) → rest ≡ whole → (p : Parts) → p.format ≡ None → p.main ≡ None → p.definitions.items ≡ []
      → IsTakenTo es whole rest p
  none_taken rest e p f m d = record {
    front = [];
    is = sym e;
    built = record {
      format = subst (λ (z : Option FormatLine). MatchOption z (count_by is_format [] ≡ 0) (λ t. Contains [] (format_line t))) (sym f) refl;
      definitions = subst (λ (z : List Definition). AllZip (IsDefinitionOf es) [] (map definition_value z)) (sym d) tt;
      main = subst (λ (z : Option Term). MatchOption z (count_by is_main [] ≡ 0) (λ t. Contains [] (main_line t))) (sym m) refl;
    };
  }

  module _ (sound : HasNoBad (IsBadLine es whole)) (rest next : List OwnValue) (o : OwnValue) (cut : rest ≡ o ∷ next) (p : Parts)
      (h : IsTakenTo es whole rest p) where
    where_is : whole ≡ h.front ++ o ∷ next
    where_is = h.is ∙ ap (λ z. h.front ++ z) cut

    pub line_named : AreNamed es o
    line_named = named_here es h.front next o whole sound where_is

    pub one_taken : (q : Parts) → IsTaken es o p q → IsTakenTo es whole next q
    one_taken q t = record {
      front = h.front ++ o ∷ [];
      is = where_is ∙ sym (append_assoc h.front (o ∷ []) next);
      built = built_next es h.front next o whole sound where_is p q h.built t;
    }

  pub all_taken : (rest : List OwnValue) → rest ≡ [] → (p : Parts) → IsTakenTo es whole rest p → AreBuilt es whole p
  all_taken rest e p h = subst (λ z. AreBuilt es z p) (sym (h.is ∙ ap (λ z. h.front ++ z) e ∙ append-nil h.front)) h.built
