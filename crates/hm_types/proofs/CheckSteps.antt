-- The check of a program, step by step.
use Rattle.std.proofs.Common.{◌≡◌, ◌<◌, ◌+◌, ℕ, List, ◌++◌, length, map, get_or, slice_get, Option, Some, None, All, inl, inr, refl, sym, ap, subst, ◌∙◌, arith, length-append}
use Rattle.std.specs.Option.{option_map}
use Rattle.std.specs.FinMap.{find}
use Rattle.std.proofs.lemmas.List.{length-map}
use Rattle.std.proofs.lemmas.Bool.{cases_lt}
use Rattle.std.proofs.lemmas.Option.{same_Some, none-some, slice_get_within, slice_get-get_or}
use Rattle.hm_tree.specs.Names.{Name, name_cmp}
use Rattle.hm_schema.specs.declared.node.NodeId.{NodeId}
use Rattle.hm_schema.specs.Values.{SchemaValue}
use Rattle.hm_schema.specs.WellFormed.{IsWellFormed}
use Rattle.hm_schema.specs.Membership.{HasNoTwins as HasNoTwinsThere}
use Rattle.hm_schema.proofs.Lists.{all_read}
use Rattle.hm_text_lens.specs.Meanings.{TextMeaning, IsLawful}
use Rattle.hm_terms.specs.Lenses.{DefinitionValue}
use Rattle.hm_terms.specs.Programs.{ProgramValue, setting_of}
use Rattle.hm_terms.specs.WellFormedPrograms.{a_body, the_main}
use Rattle.hm_terms.specs.WellFormedPrograms.{IsWellFormed as IsWellFormedProgram}
use Rattle.hm_types_forms.specs.Forms.{Form, form}
use Rattle.hm_types_forms.specs.Sound.{IsSound}
use Rattle.hm_types_forms.specs.SameForms.{IsSame, HasNoTwins}
use Rattle.hm_types_forms.specs.Members.{Member}
use Rattle.hm_types_rules.specs.Typing.{Classes, Goes}
use Rattle.hm_types_rules.specs.Faults.{At, at, Faults}
use Rattle.hm_types_rules.specs.Texts.{HasTexts}
use Rattle.hm_types_rules.specs.Programs.{classes_in, types_of, IsTypedDefinition, IsTyped}
use Rattle.hm_types_rules.specs.Numbering.{IsNumbered}
use Rattle.hm_terms.specs.Fitting.{Fits}
use Rattle.hm_schema.proofs.StandingTrees.{alike_back}
use Rattle.hm_types_rules.proofs.NumberedMembers.{numbered_members}
use Rattle.hm_types_sound.proofs.TypedFits.{form_sound, typed_fits}
use Rattle.hm_types_table.specs.Tables.{Nodes, AreFormed, Extends, shift, shifted}
use Rattle.hm_types_table.proofs.Grown.{extends_self, extends_then, extends_length, form_extends}
use Rattle.hm_types_table.proofs.Shifted.{form_shifted}
use Rattle.hm_types_terms.specs.Courses.{Declared, Scope, AreTypes, AreDeclared, IsStart, IsView, IsAt}
use Rattle.hm_types.specs.DeclaredNodes.{DeclaresAll}
use Rattle.hm_types_terms.specs.Bodies.{HasDistinctRows, GoesAstray, nowhere, elsewhere, IsTypedBody, IsMistypedBody}
use Rattle.hm_schema.specs.Membership.{IsMemberTree}
use Rattle.hm_types.specs.Checks.{HasTwinsLeft, IsGuarded, AreTyped, IsMistypedDefinition, no_view, other_view, IsMistyped, in_definition}
use Rattle.hm_types_terms.proofs.Entries.{found_at, at_found}
use Rattle.hm_types_terms.proofs.Growing.{types_grown, declared_grown, view_sound}
use Rattle.hm_types.proofs.SourceTrees.{root_trees}
use Rattle.hm_types.proofs.FitsOver.{fits_over}

-- the nodes of a schema and of the types of a program
abbrev pub base : ProgramValue → SchemaValue → Nodes
base p s = s.nodes ++ map (shifted (length s.nodes)) p.options.types

-- so many definitions are typed, over a table that has grown from these nodes
pub record IsChecked (classes : Classes) (p : ProgramValue) (s : SchemaValue) (nodes : Nodes) (i : ℕ) : Type 0 where
  pub formed : AreFormed nodes
  pub extends : Extends (base p s) nodes
  pub typed : AreTyped classes p i
  pub texts : (j : ℕ) (n : Name) (d : DefinitionValue) → j < i → slice_get p.definitions j ≡ Some (n, d) → HasTexts d.body

-- what the check has before the first definition
pub record IsBegun (p : ProgramValue) (s : SchemaValue) (by : ℕ) (ds : Declared) : Type 0 where
  pub by_is : by ≡ length s.nodes
  pub source : IsWellFormed s
  pub formed : AreFormed (base p s)
  pub declares : DeclaresAll p.definitions (length s.nodes) ds

module _ (classes : Classes) (p : ProgramValue) (s : SchemaValue) (well : IsWellFormedProgram p) (plain : HasNoTwinsThere s) (source : IsWellFormed s)
    (formed : AreFormed (base p s)) (ds : Declared) (declares : DeclaresAll p.definitions (length s.nodes) ds) where
  abbrev pub types : Nodes
  types = p.options.types

  abbrev pub by : ℕ
  by = length s.nodes

  abbrev scope : Scope
  scope = record { texts = classes; declared = ds }

  -- ---- forms in the first table

  source_form : (i : NodeId) → i.place < length s.nodes → form (base p s) i ≡ form s.nodes i
  source_form i lt = form_extends s.nodes (base p s) source.nodes (record { more = map (shifted by) types; is = refl }) i lt

  type_form : (i : NodeId) → form (base p s) (shift by i) ≡ form types i
  type_form i = form_shifted s.nodes types i

  base_length : length (base p s) ≡ by + length types
  base_length = omega (arith, length-append s.nodes (map (shifted by) types), length-map types (shifted by))

  type_inside : (i : NodeId) → i.place < length types → (shift by i).place < length (base p s)
  type_inside i lt = omega (arith, lt, base_length)

  type_sound : (i : NodeId) → IsSound (form (base p s) (shift by i))
  type_sound i = subst IsSound (sym (type_form i)) (form_sound types well.types i)

  source_sounds : (i : NodeId) → IsSound (form s.nodes i)
  source_sounds i = form_sound s.nodes
      (λ i d lt. (source.nodes i d lt, plain (record { place = i }) (get_or s.nodes i d) (slice_get-get_or s.nodes i d lt))) i

  pub source_sound : IsSound (form s.nodes s.root)
  source_sound = source_sounds s.root

  -- ---- what definitions are declared with

  record IsDeclared (k : Name) (v : NodeId × NodeId) : Type 0 where
    definition : DefinitionValue
    is : v ≡ (shift by definition.source, shift by definition.view)
    place : ℕ
    at : slice_get p.definitions place ≡ Some (k, definition)

  declared_is : (k : Name) (v : NodeId × NodeId) → find name_cmp k ds ≡ Some v → IsDeclared k v
  declared_is k v e = go (find name_cmp k p.definitions) refl (sym (declares.all k) ∙ e)
    where
      go : (o : Option DefinitionValue) → find name_cmp k p.definitions ≡ o
          → option_map {U = NodeId × NodeId} (λ (d : DefinitionValue). (shift by d.source, shift by d.view)) o ≡ Some v → IsDeclared k v
      go None f e = absurd (none-some v e)
      go (Some d) f e =
          let a = found_at k d p.definitions f in
          record { definition = d; is = sym (same_Some (shift by d.source, shift by d.view) v e); place = a.place; at = a.is }

  definition_inside : (i : ℕ) (k : Name) (d : DefinitionValue) → slice_get p.definitions i ≡ Some (k, d)
      → (d.source.place < length types) × (d.view.place < length types)
  definition_inside i k d at = all_read (λ (d : Name × DefinitionValue). (d.1.source.place < length types) × (d.1.view.place < length types))
      p.definitions i (k, d) at well.in_range

  element_is : (i : ℕ) (x : Name × (NodeId × NodeId)) (lt : i < length ds) → IsDeclared (get_or ds i x).0 (get_or ds i x).1
  element_is i x lt = declared_is (get_or ds i x).0 (get_or ds i x).1 (at_found ds declares.sorted i (get_or ds i x).0 (get_or ds i x).1 (slice_get-get_or ds i x lt))

  pub base_declared : AreDeclared (base p s) scope
  base_declared = record {
    sorted = declares.sorted;
    sources = λ i x lt. let d = element_is i x lt in
        subst (λ (v : NodeId × NodeId). v.0.place < length (base p s)) (sym d.is) (type_inside d.definition.source (definition_inside d.place _ d.definition d.at).0);
    views = λ i x lt. let d = element_is i x lt in
        subst (λ (v : NodeId × NodeId). v.1.place < length (base p s)) (sym d.is) (type_inside d.definition.view (definition_inside d.place _ d.definition d.at).1);
    sound_sources = λ i x lt. let d = element_is i x lt in
        subst (λ (v : NodeId × NodeId). IsSound (form (base p s) v.0)) (sym d.is) (type_sound d.definition.source);
    sound_views = λ i x lt. let d = element_is i x lt in
        subst (λ (v : NodeId × NodeId). IsSound (form (base p s) v.1)) (sym d.is) (type_sound d.definition.view);
  }

  base_types : AreTypes (base p s) scope (types_of classes p)
  base_types = record { texts = λ x. refl; is = λ n. go n (find name_cmp n p.definitions) ∙ ap (option_map (λ (d : NodeId × NodeId). (form (base p s) d.0, form (base p s) d.1))) (sym (declares.all n)) }
    where
      go : (n : Name) (o : Option DefinitionValue)
          → option_map {U = Form × Form} (λ (d : DefinitionValue). (form types d.source, form types d.view)) o
          ≡ option_map {U = Form × Form} (λ (d : NodeId × NodeId). (form (base p s) d.0, form (base p s) d.1))
          (option_map {U = NodeId × NodeId} (λ (d : DefinitionValue). (shift by d.source, shift by d.view)) o)
      go n None = refl
      go n (Some d) = λ t. let q : Form × Form = (sym (type_form d.source) t, sym (type_form d.view) t) in Some q

  -- ---- one definition after another

  module _ (nodes : Nodes) (i : ℕ) (h : IsChecked classes p s nodes i) where
    now_types : AreTypes nodes scope (types_of classes p)
    now_types = types_grown (base p s) nodes formed h.extends scope base_declared (types_of classes p) base_types

    now_declared : AreDeclared nodes scope
    now_declared = declared_grown (base p s) nodes formed h.extends scope base_declared

    base_form : (j : NodeId) → j.place < length (base p s) → form nodes j ≡ form (base p s) j
    base_form j lt = form_extends (base p s) nodes formed h.extends j lt

    now_form : (j : NodeId) → j.place < length types → form nodes (shift by j) ≡ form types j
    now_form j lt = base_form (shift by j) (type_inside j lt) ∙ type_form j

    pub now_inside : (j : NodeId) → j.place < length types → (shift by j).place < length nodes
    now_inside j lt = omega (arith, type_inside j lt, extends_length (base p s) nodes h.extends)

    root_inside : s.root.place < length (base p s)
    root_inside = omega (arith, source.root, base_length)

    root_form : form nodes s.root ≡ form s.nodes s.root
    root_form = base_form s.root root_inside ∙ source_form s.root source.root

    pub main_start : IsStart nodes scope s.root
    main_start = record {
      formed = h.formed;
      in_range = omega (arith, root_inside, extends_length (base p s) nodes h.extends);
      sound = subst IsSound (sym root_form) source_sound;
      declared = now_declared;
    }

    pub main_view : (new : Nodes) (j : NodeId) → IsView scope nodes new p.main s.root j → Goes (types_of classes p) p.main (form s.nodes s.root) (form new j)
    main_view new j v = subst (λ u. Goes (types_of classes p) p.main u (form new j)) root_form (v.goes (types_of classes p) now_types)

    pub main_sound : (new : Nodes) (j : NodeId) → IsView scope nodes new p.main s.root j → IsSound (form new j)
    main_sound new j v = view_sound nodes scope now_declared new p.main s.root j main_start.sound v

    pub main_fault : (a : At) → IsAt scope nodes p.main 1 s.root a → Faults (types_of classes p) p.main 1 (form s.nodes s.root) a
    main_fault a f = subst (λ u. Faults (types_of classes p) p.main 1 u a) root_form (f (types_of classes p) now_types)

    module _ (n : Name) (d : DefinitionValue) (at : slice_get p.definitions i ≡ Some (n, d)) where
      inside : (d.source.place < length types) × (d.view.place < length types)
      inside = definition_inside i n d at

      pub body_start : IsStart nodes scope (shift by d.source)
      body_start = record {
        formed = h.formed;
        in_range = now_inside d.source inside.0;
        sound = subst IsSound (sym (now_form d.source inside.0)) (form_sound types well.types d.source);
        declared = now_declared;
      }

      pub body_view_inside : (shift by d.view).place < length nodes
      body_view_inside = now_inside d.view inside.1

      pub body_rows : HasDistinctRows d.body
      body_rows ls stands = (well.rows d.body ls (a_body i at) stands).once

      pub body_typed : IsTypedBody scope nodes d.body (shift by d.source) (shift by d.view) → IsTypedDefinition classes p d
      body_typed f =
          let g = f (types_of classes p) now_types in
          record {
            view = g.view;
            goes = subst (λ u. Goes (types_of classes p) d.body u g.view) (now_form d.source inside.0) g.goes;
            same = subst (IsSame g.view) (now_form d.view inside.1) g.same;
          }

      pub body_mistyped : (a : At) → IsMistypedBody scope nodes d.body (shift by d.source) (shift by d.view) a → IsMistyped classes p s (i + 1) a
      body_mistyped a f = in_definition h.typed at (go (f (types_of classes p) now_types))
        where
          go : {a : At} → GoesAstray (types_of classes p) d.body (form nodes (shift by d.source)) (form nodes (shift by d.view)) a → IsMistypedDefinition classes p d a
          go {a} (nowhere g) = no_view (subst (λ u. Faults (types_of classes p) d.body 1 u a) (now_form d.source inside.0) g)
          go (elsewhere {x = x} g f) = other_view (subst (λ u. Goes (types_of classes p) d.body u x) (now_form d.source inside.0) g)
              (λ s. f (subst (IsSame x) (sym (now_form d.view inside.1)) s))

      pub checked_next : (new : Nodes) → AreFormed new → Extends nodes new → IsTypedDefinition classes p d → HasTexts d.body → IsChecked classes p s new (i + 1)
      checked_next new g e t texts = record {
        formed = g;
        extends = extends_then (base p s) nodes new h.extends e;
        typed = record {
          each = λ j m c lt q. elim (cases_lt j i) [
            | inl less ↦ h.typed.each j m c less q
            | inr ge ↦
                let same : j ≡ i = omega (arith, lt, ge) in
                subst (IsTypedDefinition classes p) (ap (λ (x : Name × DefinitionValue). x.1) (same_Some (n, d) (m, c) (sym at ∙ ap (slice_get p.definitions) (sym same) ∙ q))) t
          ];
        };
        texts = λ j m c lt q. elim (cases_lt j i) [
          | inl less ↦ h.texts j m c less q
          | inr ge ↦
              let same : j ≡ i = omega (arith, lt, ge) in
              subst (λ (d : DefinitionValue). HasTexts d.body) (ap (λ (x : Name × DefinitionValue). x.1) (same_Some (n, d) (m, c) (sym at ∙ ap (slice_get p.definitions) (sym same) ∙ q))) texts
        ];
      }

  pub checked_none : IsChecked classes p s (base p s) 0
  checked_none = record {
    formed = formed;
    extends = extends_self (base p s);
    typed = record { each = λ j n d lt at. absurd (omega (arith, lt)) };
    texts = λ j n d lt at. absurd (omega (arith, lt));
  }

  -- ---- the whole

  pub main_rows : HasDistinctRows p.main
  main_rows ls stands = (well.rows p.main ls the_main stands).once

  module _ (nodes : Nodes) (h : IsChecked classes p s nodes (length p.definitions)) (new : Nodes) (j : NodeId) (v : IsView scope nodes new p.main s.root j) where
    pub twins_left : (HasNoTwins (form new j) → ⊥) → HasTwinsLeft classes p s
    twins_left f = record { definitions = h.typed; shown = form new j; main = main_view nodes (length p.definitions) h new j v; twins = f }

    module _ (guarded : IsGuarded classes p) (bare : HasNoTwins (form new j)) where
      pub program_typed : IsTyped classes p (form s.nodes s.root) (form new j)
      program_typed = record {
        known = guarded.known;
        guarded = guarded.guarded;
        definitions = λ n d e. let a = found_at n d p.definitions e in
            h.typed.each a.place n d (slice_get_within p.definitions a.place (n, d) a.is) a.is;
        main = main_view nodes (length p.definitions) h new j v;
        plain = bare;
      }

      pub program_fits : (view : SchemaValue) → IsWellFormed view → IsNumbered (form new j) view → HasTexts p.main → (ms : List TextMeaning)
          → classes ≡ classes_in ms → All IsLawful ms → Fits (setting_of ms p) p.main (IsMemberTree s) (IsMemberTree view)
      program_fits view well_view numbered text ms same lawful =
          fits_over (setting_of ms p) p.main (Member (form s.nodes s.root)) (Member (form new j)) (IsMemberTree s) (IsMemberTree view)
          (root_trees s source source_sounds) (alike_back (numbered_members (form new j) view well_view (main_sound nodes (length p.definitions) h new j v) numbered))
          (typed_fits ms lawful p well.types
          (λ n d e. let a = found_at n d p.definitions e in h.texts a.place n d (slice_get_within p.definitions a.place (n, d) a.is) a.is)
          (form s.nodes s.root) (form new j) (subst (λ c. IsTyped c p (form s.nodes s.root) (form new j)) same program_typed) source_sound text)
