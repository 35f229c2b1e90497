-- The text of a program that some file describes is a file of that program.
use Rattle.std.proofs.Common.{◌≡◌, ◌⊎◌, inl, inr, ℕ, zero, suc, ◌<◌, List, [], ◌∷◌, ◌++◌, length, get_or, map, take, slice_get, count_by, filter_map, Some, refl, sym, ap, ◌∙◌, subst, arith}
use Rattle.std.specs.Prelude.{codes, flat_map}
use Rattle.std.specs.List.{AllZip, Contains}
use Rattle.std.proofs.lemmas.List.{length-map, length-take}
use Rattle.std.proofs.lemmas.List.Elements.{Contains-append_right}
use Rattle.std.proofs.lemmas.Option.{same_Some, slice_get_within, slice_get-get_or, get_or_from_slice_get}
use Rattle.hm_tree.specs.Names.{Name}
use Rattle.hm_terms.specs.Lenses.{Lens, DefinitionValue}
use Rattle.hm_terms.specs.Programs.{ProgramValue}
use Rattle.hm_terms.specs.WellFormedPrograms.{IsLensOf, a_body, the_main, IsWellFormed}
use Rattle.hm_focal_terms.specs.TermText.{IsTermText}
use Rattle.hm_focal_terms.specs.Written.{term_text}
use Rattle.hm_focal_terms.proofs.Laws.{written_reads}
use Rattle.hm_schema_lines.specs.declared.token.Token.TheVariants.{Word}
use Rattle.hm_schema_lines.specs.Tokens.{IsToken}
use Rattle.hm_schema_lines.specs.NodeLines.{NodeLineValue, node, IsNodeLine}
use Rattle.hm_schema_lines.specs.Entries.{EntryValue, unknown, says, texts_of}
use Rattle.hm_schema_lines.specs.BadLines.{Says, IsNode, begins_node, IsBadNodeLine, declares_empty}
use Rattle.hm_schema_lines.specs.FirstBad.{HasNoBad}
use Rattle.hm_schema_lines.specs.Nodes.{IsPlaceOf, declared, empty, NamesEmpty}
use Rattle.hm_schema_writer.specs.Writing.{line_text}
use Rattle.hm_schema_writer.specs.WrittenNodes.{name_at, nodes_lines, IsWritable, AreOfNodes}
use Rattle.hm_schema_lines.proofs.Laws.{at_place, from_place, names_empty_or, type_place}
use Rattle.hm_schema_writer.proofs.Laws.{AreOneLine, front_quiet, lines_both, lines_each, node_line_line, spaced_line, texts_are, readable_nodes, rewritten_nodes, written_reads as written_nodes_read, written_sound, written_places, written_nodes, written_type_names}
use Rattle.hm_focal.specs.OwnLines.{BodyValue, term, oversized, LensValue, OwnValue, nothing, header, format, lens, main, body_in, lens_in, lens_names, named_nodes, IsHeaded, equals, word, IsBody, IsLensLine}
use Rattle.hm_focal.specs.Lines.{IsOwnBehind, AreLines}
use Rattle.hm_focal.specs.BadLines.{HasBody, IsBadLine, unreadable, of_node, declared_twice, names_no_source, names_no_view, calls_no_lens, too_many_lenses, too_large, too_long}
use Rattle.hm_focal.specs.LensFiles.{IsDefinitionOf, IsLensFile}
use Rattle.hm_focal_writer.specs.Writing.{header_text, format_text, definition_text, main_text, lens_lines, lens_text, HasSmallTexts}
use Rattle.hm_focal.proofs.Laws.{lens_at, zip_at, line_of, body_of_line, node_sound, file_formed, count_lenses}
use Rattle.hm_focal_writer.proofs.OwnOneLine.{format_line, lens_line_line, main_line_line}
use Rattle.hm_focal_writer.proofs.WrittenLines.{lens_line, written_entries, written_own, AreReadable, lines_read}
use Rattle.hm_focal_writer.proofs.WrittenOwn.{header_reads, format_reads, lens_reads, main_reads}
use Rattle.hm_focal_writer.proofs.WrittenParts.{name_of, ends_of, owns, back_quiet, readable, lens_place, main_place, has_main, lens_values, all_lens_names, all_nodes, named_before, name_is}

-- the words in front of `=` are words
abbrev AreWords : List Name → Type 0
AreWords [] = Unit {0}
AreWords (w ∷ ws) = IsToken (Word w) × AreWords ws

headed_words : (line : List ℕ) (ws : List Name) (text : List ℕ) → IsHeaded line ws text → AreWords ws
headed_words line _ text (equals e g) = tt
headed_words line _ text (word {next} {ws} f h) = (f.1.sound, headed_words next ws text h)

place_is_node : (es : List EntryValue) (w : Name) (i : ℕ) → IsPlaceOf es w i → IsNode es w
place_is_node es w _ (declared j is) = inl (from_place es _ (j, is))
place_is_node es _ _ empty = inr refl

-- the place of `Empty`
empty_place : (es : List EntryValue) → HasNoBad (IsBadNodeLine es) → (w : Name) (i : ℕ) → IsPlaceOf es w i → w ≡ codes "Empty"
    → i ≡ count_by begins_node es
empty_place es sound w _ (declared j is) same = absurd (sound j (declares_empty (subst (λ (v : Name). Says es j (node v)) same is)))
empty_place es sound _ _ empty same = refl

zip_each : {X Y : Type 0} (P : X → Y → Type 0) (f : Y → X) (ys : List Y) → ((y : Y) → Contains ys y → P (f y) y) → AllZip P (map f ys) ys
zip_each P f [] h = tt
zip_each P f (y ∷ ys) h = (h y (0, omega arith, refl), zip_each P f ys (λ z c. h z (suc c.0, omega (arith, c.1), c.2)))

-- ---- the nodes that lens lines name

module _ (names : List Name) where
  named_among : (ds : List (Name × DefinitionValue)) → ((v : Name × DefinitionValue) → (k : ℕ) × (slice_get ds k ≡ Some v)
      → Contains names (name_at names v.1.source) × Contains names (name_at names v.1.view)) → (w : Name)
      → Contains (flat_map (ends_of names) ds) w → Contains names w
  named_among [] each w c = absurd (omega (arith, c.1))
  named_among (v ∷ ds) each w c =
      let here = each v (0, refl) in
      go here.0 here.1 (named_among ds (λ u a. each u (suc a.0, a.1)) w) (at_place (name_at names v.1.source ∷ name_at names v.1.view ∷ rest) w c)
    where
      rest : List Name
      rest = flat_map (ends_of names) ds

      go : Contains names (name_at names v.1.source) → Contains names (name_at names v.1.view) → (Contains rest w → Contains names w)
          → (m : ℕ) × (slice_get (name_at names v.1.source ∷ name_at names v.1.view ∷ rest) m ≡ Some w) → Contains names w
      go s t more (zero, e) = subst (Contains names) (same_Some (name_at names v.1.source) w e) s
      go s t more (suc zero, e) = subst (Contains names) (same_Some (name_at names v.1.view) w e) t
      go s t more (suc (suc m), e) = more (from_place rest w (m, e))

  among_named : (ds : List (Name × DefinitionValue)) (w : Name) (v : Name × DefinitionValue) → Contains ds v
      → (name_at names v.1.source ≡ w) ⊎ (name_at names v.1.view ≡ w)
      → Contains (flat_map (ends_of names) ds) w
  among_named ds w v c is = let a = at_place ds v c in go ds a.0 a.1
    where
      go : (ds : List (Name × DefinitionValue)) (k : ℕ) → slice_get ds k ≡ Some v
          → Contains (flat_map (ends_of names) ds) w
      go [] k e = let no : ⊥ = cc in absurd no
      go (u ∷ ds) zero e = first is
        where
          same : u ≡ v
          same = same_Some u v e

          first : (name_at names v.1.source ≡ w) ⊎ (name_at names v.1.view ≡ w)
              → Contains (name_at names u.1.source ∷ name_at names u.1.view ∷ flat_map (ends_of names) ds) w
          first (inl s) =
              let here : name_at names u.1.source ≡ w = ap (λ (z : Name × DefinitionValue). name_at names z.1.source) same ∙ s in
              from_place (name_at names u.1.source ∷ name_at names u.1.view ∷ flat_map (ends_of names) ds) w (0, ap Some here)
          first (inr s) =
              let here : name_at names u.1.view ≡ w = ap (λ (z : Name × DefinitionValue). name_at names z.1.view) same ∙ s in
              from_place (name_at names u.1.source ∷ name_at names u.1.view ∷ flat_map (ends_of names) ds) w (1, ap Some here)
      go (u ∷ ds) (suc k) e = let r = go ds k e in (suc (suc r.0), omega (arith, r.1), r.2)

-- a lens line that names a node, and its definition
abbrev IsNaming : (LensValue → Name × DefinitionValue → Type 0) → List (Name × DefinitionValue) → Name → Type 0
IsNaming P ds w = (v : Name × DefinitionValue) × Contains ds v × (d : LensValue) × P d v × ((d.source ≡ w) ⊎ (d.view ≡ w))

naming : (P : LensValue → Name × DefinitionValue → Type 0) (os : List OwnValue) (ds : List (Name × DefinitionValue)) → AllZip P (filter_map lens_in os) ds
    → (w : Name) → Contains (named_nodes os) w → IsNaming P ds w
naming P [] ds z w c = absurd (omega (arith, c.1))
naming P (nothing ∷ os) ds z w c = naming P os ds z w c
naming P (header ∷ os) ds z w c = naming P os ds z w c
naming P (format n ps ∷ os) ds z w c = naming P os ds z w c
naming P (main b ∷ os) ds z w c = naming P os ds z w c
naming P (lens d ∷ os) [] z w c = absurd z
naming P (lens d ∷ os) (v ∷ ds) z w c = go (naming P os ds z.1 w) (at_place (d.source ∷ d.view ∷ named_nodes os) w c)
  where
    go : (Contains (named_nodes os) w → IsNaming P ds w) → (m : ℕ) × (slice_get (d.source ∷ d.view ∷ named_nodes os) m ≡ Some w)
        → IsNaming P (v ∷ ds) w
    go more (zero, e) = (v, (0, omega arith, refl), d, z.0, inl (same_Some d.source w e))
    go more (suc zero, e) = (v, (0, omega arith, refl), d, z.0, inr (same_Some d.view w e))
    go more (suc (suc m), e) =
        let r = more (from_place (named_nodes os) w (m, e)) in
        (r.0, (suc r.1.0, omega (arith, r.1.1), r.1.2), r.2, r.3, r.4)

module _ (bytes : List ℕ) (p : ProgramValue) (h : IsLensFile bytes p) where
  formed : IsWellFormed p
  formed = file_formed bytes p h

  -- ---- what was read

  own_line_at : (i : ℕ) (o : OwnValue) → slice_get h.own i ≡ Some o
      → (line : List ℕ) × IsOwnBehind (take i h.entries) (take i h.own) line o
  own_line_at i o at =
      let within = slice_get_within h.own i o at in
      let text = slice_get-get_or (texts_of bytes) i [] (omega (arith, within, h.read.own)) in
      (get_or (texts_of bytes) i [], h.read.own_at i (get_or (texts_of bytes) i []) o text at)

  node_read : (i : ℕ) (x : NodeLineValue) → Says h.entries i x → (line : List ℕ) × IsNodeLine line x
  node_read i x at =
      let within = slice_get_within h.entries i (says x) at in
      let text = slice_get-get_or (texts_of bytes) i [] (omega (arith, within, h.read.entries)) in
      let behind = h.read.entry_at i (get_or (texts_of bytes) i []) (says x) text at in
      (get_or (texts_of bytes) i [], behind.1)

  writable : IsWritable p.options.type_names p.options.types
  writable = readable_nodes h.entries (node_sound bytes p h) node_read (named_nodes h.own) p.options.type_names p.options.types h.types h.type_names

  name_there : (i : ℕ) → i < length p.options.types → slice_get p.options.type_names i ≡ Some (get_or p.options.type_names i [])
  name_there i lt = slice_get-get_or p.options.type_names i [] (omega (arith, lt, formed.named))

  name_word : (i : ℕ) → i < length p.options.types → IsToken (Word (get_or p.options.type_names i []))
  name_word i lt = writable.words i (get_or p.options.type_names i []) (name_there i lt)

  text_of_body : (l : Lens) → IsLensOf p l → (text : List ℕ) × IsTermText text l
  text_of_body l is =
      let b = body_of_line bytes p h l is in
      let line = own_line_at b.0 b.1.0 b.1.1 in
      go b.0 b.1.0 line.0 line.1 b.1.2
    where
      go : (i : ℕ) (o : OwnValue) (line : List ℕ) → IsOwnBehind (take i h.entries) (take i h.own) line o → body_in o ≡ Some (term l)
          → (text : List ℕ) × IsTermText text l
      go i (lens d) line k e = let same : d.body ≡ term l = same_Some d.body (term l) e in let b = subst (IsBody k.0.0) same k.0.2 in (k.0.0, b.2)
      go i (main c) line k e = let same : c ≡ term l = same_Some c (term l) e in let b = subst (IsBody k.0.0) same k.0.2 in (k.0.0, b.2)
      go i nothing line k e = let f : ⊥ = cc in absurd f
      go i header line k e = let f : ⊥ = cc in absurd f
      go i (format w ps) line k e = let f : ⊥ = cc in absurd f

  term_reads : (l : Lens) → IsLensOf p l → IsTermText (term_text l) l
  term_reads l is = let t = text_of_body l is in written_reads {bytes = t.0} {l = l} t.1

  lens_word : (k : ℕ) (v : Name × DefinitionValue) → slice_get p.definitions k ≡ Some v → IsToken (Word v.0)
  lens_word k v e =
      let l = line_of bytes p h k v e in
      let line = own_line_at l.1 (lens l.0) l.2 in
      let words = headed_words line.0 _ line.1.0.0 line.1.0.1 in
      subst (λ (z : Name). IsToken (Word z)) (sym l.3.name) words.1.0

  ends_within : (k : ℕ) (v : Name × DefinitionValue) → slice_get p.definitions k ≡ Some v
      → (v.1.source.place < length p.options.types) × (v.1.view.place < length p.options.types)
  ends_within k v e = subst (λ (z : Name × DefinitionValue). (z.1.source.place < length p.options.types) × (z.1.view.place < length p.options.types))
      (get_or_from_slice_get p.definitions k v v e) (formed.in_range k v (slice_get_within p.definitions k v e))

  -- ---- what was written, entry by entry

  are_of_nodes : AreOfNodes p.options.type_names p.options.types (written_entries p)
  are_of_nodes = record {
    front = unknown ∷ unknown ∷ [];
    back = map (λ v. unknown) p.definitions ++ unknown ∷ [];
    is = refl;
    before = front_quiet;
    behind = back_quiet p.definitions;
  }

  place_there : (i : ℕ) → i < length p.options.types → IsPlaceOf (written_entries p) (get_or p.options.type_names i []) i
  place_there i lt = written_places p.options.type_names p.options.types writable (written_entries p) are_of_nodes i
      (get_or p.options.type_names i []) (name_there i lt)

  -- ---- no line is bad

  body_place : (i : ℕ) (o : OwnValue) (b : BodyValue) → slice_get (written_own p) i ≡ Some o → body_in o ≡ Some b
      → (l : Lens) × (b ≡ term l) × IsLensOf p l
  body_place zero o b at body =
      let same : header ≡ o = same_Some header o at in
      let f : ◌≡◌ {A = _} (body_in header) (Some b) = ap body_in same ∙ body in let no : ⊥ = cc in absurd no
  body_place (suc zero) o b at body =
      let same : format p.format p.options.pairs ≡ o = same_Some (format p.format p.options.pairs) o at in
      let f : ◌≡◌ {A = _} (body_in (format p.format p.options.pairs)) (Some b) = ap body_in same ∙ body in let no : ⊥ = cc in absurd no
  body_place (suc (suc i)) o b at body = go o at body
    where
      go : (o : OwnValue) → slice_get (written_own p) (suc (suc i)) ≡ Some o → body_in o ≡ Some b → (l : Lens) × (b ≡ term l) × IsLensOf p l
      go (lens d) at body =
          let r = lens_place p.options.type_names (term p.main) (nodes_lines p.options.type_names p.options.types) p.definitions i d at in
          let same : d.body ≡ b = same_Some d.body b body in
          (r.value.1.body, sym same ∙ ap (λ (z : LensValue). z.body) r.line, a_body r.place r.is)
      go (main c) at body =
          let r = main_place p.options.type_names (term p.main) (nodes_lines p.options.type_names p.options.types) p.definitions i c at in
          let same : c ≡ b = same_Some c b body in
          (p.main, sym same ∙ r, the_main)
      go nothing at body = let f : ⊥ = cc in absurd f
      go header at body = let f : ⊥ = cc in absurd f
      go (format w ps) at body = let f : ⊥ = cc in absurd f

  term_one : (l k : Lens) → term l ≡ term k → l ≡ k
  term_one l k e = cc

  body_is : (i : ℕ) (l : Lens) → HasBody (written_own p) i (term l) → IsLensOf p l
  body_is i l b = let r = body_place i b.0 (term l) b.1 b.2 in subst (IsLensOf p) (sym (term_one l r.0 r.1)) r.2

  -- a lens line
  record IsDefined (i : ℕ) (d : LensValue) : Type 0 where
    place : ℕ
    value : Name × DefinitionValue
    is : slice_get p.definitions place ≡ Some value
    line : d ≡ lens_line p.options.type_names value
    earlier : lens_names (take i (written_own p)) ≡ map name_of (take place p.definitions)

  defined : (i : ℕ) (d : LensValue) → slice_get (written_own p) i ≡ Some (lens d) → IsDefined i d
  defined zero d at = let f : header ≡ lens d = same_Some header (lens d) at in let no : ⊥ = cc in absurd no
  defined (suc zero) d at =
      let f : format p.format p.options.pairs ≡ lens d = same_Some (format p.format p.options.pairs) (lens d) at in let no : ⊥ = cc in absurd no
  defined (suc (suc i)) d at =
      let r = lens_place p.options.type_names (term p.main) (nodes_lines p.options.type_names p.options.types) p.definitions i d at in
      record { place = r.place; value = r.value; is = r.is; line = r.line; earlier = r.earlier }

  all_names : lens_names (written_own p) ≡ map name_of p.definitions
  all_names = all_lens_names p.options.type_names (term p.main) (nodes_lines p.options.type_names p.options.types) p.definitions

  not_bad : HasNoBad (IsBadLine (written_entries p) (written_own p))
  not_bad zero (unreadable e o) = let f : header ≡ nothing = same_Some header nothing o in let no : ⊥ = cc in no
  not_bad (suc zero) (unreadable e o) =
      let f : format p.format p.options.pairs ≡ nothing = same_Some (format p.format p.options.pairs) nothing o in let no : ⊥ = cc in no
  not_bad (suc (suc i)) (unreadable e o) =
      readable p.options.type_names (term p.main) (nodes_lines p.options.type_names p.options.types) p.definitions i e o
  not_bad i (of_node bad) = written_sound p.options.type_names p.options.types writable (written_entries p) are_of_nodes i bad
  not_bad i (declared_twice {d} at again) =
      let r = defined i d at in
      let name : d.name ≡ r.value.0 = ap (λ (z : LensValue). z.name) r.line in
      let a = at_place (lens_names (take i (written_own p))) d.name again in
      let there = sym (ap (λ z. slice_get z a.0) r.earlier) ∙ a.1 ∙ ap Some name in
      let before = named_before p.definitions r.place a.0 r.value.0 there in
      let one = formed.definition_names a.0 r.place r.value.0 before.1 (name_is p.definitions r.place r.value r.is) in
      omega (arith, before.0, one)
  not_bad i (names_no_source {d} at none) =
      let r = defined i d at in
      none (subst (IsNode (written_entries p)) (sym (ap (λ (z : LensValue). z.source) r.line))
      (place_is_node (written_entries p) _ _ (place_there r.value.1.source.place (ends_within r.place r.value r.is).0)))
  not_bad i (names_no_view {d} at none) =
      let r = defined i d at in
      none (subst (IsNode (written_entries p)) (sym (ap (λ (z : LensValue). z.view) r.line))
      (place_is_node (written_entries p) _ _ (place_there r.value.1.view.place (ends_within r.place r.value r.is).1)))
  not_bad i (calls_no_lens {l} {n} b calls none) =
      none (subst (λ (z : List Name). Contains z n) (sym all_names) (formed.calls l n (body_is i l b) calls))
  not_bad i (too_many_lenses {d} at many) =
      let r = defined i d at in
      let count = count_lenses (take i (written_own p)) ∙ ap length r.earlier ∙ length-map (take r.place p.definitions) name_of in
      let few = length-take r.place p.definitions in
      let z = zip_at (IsDefinitionOf h.entries) (filter_map lens_in h.own) p.definitions h.definitions r.place r.value r.is in
      let l = lens_at h.own r.place z.0 z.1 in
      h.sound l.line (too_many_lenses l.is (omega (arith, many, count, few, count_lenses (take l.line h.own), l.before)))
  not_bad i (too_large b) = let r = body_place i b.0 oversized b.1 b.2 in let e = r.1 in let no : ⊥ = cc in no
  not_bad i (too_long {l} b long) = let o = body_of_line bytes p h l (body_is i l b) in h.sound o.0 (too_long o.1 long)

  -- ---- what the lines describe

  definition_of : (v : Name × DefinitionValue) → Contains p.definitions v → IsDefinitionOf (written_entries p) (lens_line p.options.type_names v) v
  definition_of v c =
      let a = at_place p.definitions v c in
      let w = ends_within a.0 v a.1 in
      record { name = refl; source = place_there v.1.source.place w.0; view = place_there v.1.view.place w.1; body = refl }

  definitions_are : AllZip (IsDefinitionOf (written_entries p)) (filter_map lens_in (written_own p)) p.definitions
  definitions_are = subst (λ (z : List LensValue). AllZip (IsDefinitionOf (written_entries p)) z p.definitions)
      (sym (lens_values p.options.type_names (term p.main) (nodes_lines p.options.type_names p.options.types) p.definitions))
      (zip_each (IsDefinitionOf (written_entries p)) (lens_line p.options.type_names) p.definitions definition_of)

  -- a node that a lens line names is among the names
  node_name : (w : Name) → Contains (named_nodes (written_own p)) w → Contains p.options.type_names w
  node_name w c =
      named_among p.options.type_names p.definitions (λ v a. let e = ends_within a.0 v a.1 in (
        from_place p.options.type_names _ (v.1.source.place, name_there v.1.source.place e.0),
        from_place p.options.type_names _ (v.1.view.place, name_there v.1.view.place e.1),
      )) w
      (subst (λ (z : List Name). Contains z w)
      (all_nodes p.options.type_names (term p.main) (nodes_lines p.options.type_names p.options.types) p.definitions) c)

  module _ (c : Contains p.options.type_names (codes "Empty")) where
    empty_at : (i : ℕ) × (slice_get p.options.type_names i ≡ Some (codes "Empty"))
    empty_at = at_place p.options.type_names (codes "Empty") c

    empty_here : empty_at.0 ≡ count_by begins_node h.entries
    empty_here = empty_place h.entries (node_sound bytes p h) (codes "Empty") empty_at.0
        (type_place h.entries (node_sound bytes p h) (named_nodes h.own) p.options.type_names p.options.types h.type_names h.types empty_at.0
        (codes "Empty") empty_at.1) refl

    empty_written : empty_at.0 ≡ count_by begins_node (written_entries p)
    empty_written = empty_place (written_entries p) (written_sound p.options.type_names p.options.types writable (written_entries p) are_of_nodes)
        (codes "Empty") empty_at.0
        (written_places p.options.type_names p.options.types writable (written_entries p) are_of_nodes empty_at.0 (codes "Empty") empty_at.1) refl

    -- its place has its name
    empty_is : (i : ℕ) (w : Name) → IsPlaceOf h.entries w i → w ≡ codes "Empty" → get_or p.options.type_names i [] ≡ codes "Empty"
    empty_is i w place same =
        ap (λ n. get_or p.options.type_names n []) (empty_place h.entries (node_sound bytes p h) w i place same ∙ sym empty_here)
        ∙ get_or_from_slice_get p.options.type_names empty_at.0 (codes "Empty") [] empty_at.1

    by_lens : Contains (named_nodes h.own) (codes "Empty") → Contains (named_nodes (written_own p)) (codes "Empty")
    by_lens named =
        subst (λ (z : List Name). Contains z (codes "Empty"))
        (sym (all_nodes p.options.type_names (term p.main) (nodes_lines p.options.type_names p.options.types) p.definitions))
        (among_named p.options.type_names p.definitions (codes "Empty") n.0 n.1 (go n.4))
      where
        n : IsNaming (IsDefinitionOf h.entries) p.definitions (codes "Empty")
        n = naming (IsDefinitionOf h.entries) h.own p.definitions h.definitions (codes "Empty") named

        go : (n.2.source ≡ codes "Empty") ⊎ (n.2.view ≡ codes "Empty")
            → (get_or p.options.type_names n.0.1.source.place [] ≡ codes "Empty") ⊎ (get_or p.options.type_names n.0.1.view.place [] ≡ codes "Empty")
        go (inl same) = inl (empty_is n.0.1.source.place n.2.source n.3.source same)
        go (inr same) = inr (empty_is n.0.1.view.place n.2.view n.3.view same)

    -- the lines that were read and the written lines name it alike
    empty_kept : NamesEmpty (written_entries p) (named_nodes h.own)
    empty_kept = go (names_empty_or (written_entries p) (named_nodes h.own))
      where
        go : NamesEmpty (written_entries p) (named_nodes h.own) ⊎ (NamesEmpty (written_entries p) (named_nodes h.own) → ⊥)
            → NamesEmpty (written_entries p) (named_nodes h.own)
        go (inl it) = it
        go (inr none) =
            let nodes = rewritten_nodes h.entries (node_sound bytes p h) node_read (named_nodes h.own) p.options.type_names p.options.types h.types
            h.type_names (written_entries p) are_of_nodes in
            absurd (omega (
              arith,
              slice_get_within p.options.type_names empty_at.0 (codes "Empty") empty_at.1,
              empty_written,
              formed.named,
              nodes.short none,
            ))

    empty_named : NamesEmpty (written_entries p) (named_nodes (written_own p))
    empty_named = go empty_kept
      where
        go : NamesEmpty (written_entries p) (named_nodes h.own) → NamesEmpty (written_entries p) (named_nodes (written_own p))
        go (inl line) = inl line
        go (inr named) = inr (by_lens named)

  module _ (small : HasSmallTexts p) where
    lens_read : (v : Name × DefinitionValue) → Contains p.definitions v → (l : Lens) → IsLensOf p l → v.1.body ≡ l
        → IsLensLine (definition_text p.options.type_names v) (lens_line p.options.type_names v)
    lens_read v c l is e =
        let a = at_place p.definitions v c in
        let w = ends_within a.0 v a.1 in
        lens_reads l (term_reads l is) (small l is) p.options.type_names v e (lens_word a.0 v a.1) (name_word v.1.source.place w.0)
        (name_word v.1.view.place w.1)

    are_readable : AreReadable p
    are_readable = record {
      format =
          let a = at_place h.own (format p.format p.options.pairs) h.format in
          let line = own_line_at a.0 (format p.format p.options.pairs) a.1 in
          format_reads line.0 p.format p.options.pairs line.1.0;
      nodes = written_nodes_read p.options.type_names p.options.types writable;
      lenses = λ v c. let a = at_place p.definitions v c in lens_read v c v.1.body (a_body a.0 a.1) refl;
      main = main_reads p.main (term_reads p.main the_main) (small p.main the_main);
    }

    one_lines : AreOneLine (lens_lines p)
    one_lines =
        let r = are_readable in (
          spaced_line _ header_text header_reads,
          (
            format_line (format_text p.format p.options.pairs) p.format p.options.pairs r.format,
            lines_both (map line_text (nodes_lines p.options.type_names p.options.types)) _
                (lines_each line_text (nodes_lines p.options.type_names p.options.types) (λ x c. node_line_line (line_text x) x (r.nodes x c)))
                (lines_both (map (definition_text p.options.type_names) p.definitions) _
                (lines_each (definition_text p.options.type_names) p.definitions
                (λ v c. lens_line_line (definition_text p.options.type_names v) v.0 _ _ v.1.body (r.lenses v c)))
                (main_line_line (main_text p.main) p.main r.main, tt)),
          ),
        )

    pub written_lens_reads : IsLensFile (lens_text p) p
    written_lens_reads = record {
      entries = written_entries p;
      own = written_own p;
      read = subst (λ (z : List (List ℕ)). AreLines z (written_entries p) (written_own p)) (sym (texts_are (lens_lines p) one_lines))
          (lines_read p are_readable);
      sound = not_bad;
      format = from_place (written_own p) (format p.format p.options.pairs) (1, refl);
      type_names = written_type_names p.options.type_names p.options.types writable (written_entries p) are_of_nodes (named_nodes (written_own p))
          empty_named (node_name (codes "Empty"));
      types = written_nodes p.options.type_names p.options.types writable (written_entries p) are_of_nodes (named_nodes (written_own p))
          empty_named (node_name (codes "Empty"));
      definitions = definitions_are;
      main = Contains-append_right (header ∷ format p.format p.options.pairs ∷ [])
          (owns p.options.type_names (term p.main) (nodes_lines p.options.type_names p.options.types) p.definitions) (main (term p.main))
          (has_main p.options.type_names (term p.main) (nodes_lines p.options.type_names p.options.types) p.definitions);
    }
