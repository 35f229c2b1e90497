-- The program of a lens file is well formed.
use Rattle.std.proofs.Common.{◌≡◌, ℕ, zero, suc, ◌<◌, List, [], ◌∷◌, ◌++◌, length, get_or, map, take, slice_get, filter_map, Option, Some, None, refl, sym, ap, ◌∙◌, subst, arith}
use Rattle.std.specs.List.{AllZip, Contains, cons_option}
use Rattle.std.proofs.lemmas.List.Elements.{Contains-append_left, Contains-append_right}
use Rattle.std.proofs.lemmas.Option.{slice_get_within, slice_get-get_or, same_Some}
use Rattle.hm_tree.specs.Names.{Name}
use Rattle.hm_terms.specs.Lenses.{Lens, DefinitionValue}
use Rattle.hm_terms.specs.Programs.{ProgramValue}
use Rattle.hm_terms.specs.WellFormedPrograms.{HasCall, HasOnce, IsLensOf, a_body, the_main, IsWellFormed}
use Rattle.hm_schema_lines.specs.Entries.{EntryValue, texts_of}
use Rattle.hm_schema_lines.specs.BadLines.{IsBadNodeLine}
use Rattle.hm_schema_lines.specs.Firsts.{place_in}
use Rattle.hm_schema_lines.specs.FirstBad.{HasNoBad}
use Rattle.hm_schema_lines.proofs.Laws.{at_place, there, not_there, type_count, type_names_once, types_formed, own_in_range}
use Rattle.hm_focal.specs.OwnLines.{term, LensValue, OwnValue, nothing, header, format, lens, main, body_in, lens_in, name_in, nodes_in, lens_names, named_nodes, IsBody}
use Rattle.hm_focal.specs.Lines.{IsOwnBehind}
use Rattle.hm_focal.specs.BadLines.{HasBody, DeclaresLens, of_node, declared_twice, calls_no_lens}
use Rattle.hm_focal.specs.LensFiles.{IsDefinitionOf, IsLensFile}
use Rattle.hm_focal.proofs.Rows.{AreSound, text_rows}

-- ---- lens lines

-- a lens line, by its place among them
pub record IsLensAt (os : List OwnValue) (k : ℕ) (d : LensValue) : Type 0 where
  pub line : ℕ
  pub is : slice_get os line ≡ Some (lens d)
  pub before : length (lens_names (take line os)) ≡ k

pub lens_at : (os : List OwnValue) (k : ℕ) (d : LensValue) → slice_get (filter_map lens_in os) k ≡ Some d → IsLensAt os k d
lens_at [] k d e = let f : ⊥ = cc in absurd f
lens_at (o ∷ os) k d e = go o k e (lens_at os)
  where
    next : (o : OwnValue) → name_in o ≡ None → (k : ℕ) → IsLensAt os k d → IsLensAt (o ∷ os) k d
    next o none k l = record {
      line = suc l.line;
      is = l.is;
      before = ap (λ z. length (cons_option z (lens_names (take l.line os)))) none ∙ l.before;
    }

    go : (o : OwnValue) (k : ℕ) → slice_get (filter_map lens_in (o ∷ os)) k ≡ Some d
        → ((k : ℕ) (d : LensValue) → slice_get (filter_map lens_in os) k ≡ Some d → IsLensAt os k d) → IsLensAt (o ∷ os) k d
    go (lens f) zero e rest = let same : f ≡ d = same_Some f d e in record { line = 0; is = ap (λ z. Some (lens z)) same; before = refl }
    go (lens f) (suc k) e rest = let l = rest k d e in record { line = suc l.line; is = l.is; before = ap suc l.before }
    go nothing k e rest = next nothing refl k (rest k d e)
    go header k e rest = next header refl k (rest k d e)
    go (format w ps) k e rest = next (format w ps) refl k (rest k d e)
    go (main b) k e rest = next (main b) refl k (rest k d e)

-- the lines of a list of definitions
pub zip_at : {X Y : Type 0} (P : X → Y → Type 0) (xs : List X) (ys : List Y) → AllZip P xs ys → (k : ℕ) (y : Y) → slice_get ys k ≡ Some y
    → (x : X) × (slice_get xs k ≡ Some x) × P x y
zip_at P [] [] h k y e = let f : ⊥ = cc in absurd f
zip_at P [] (z ∷ ys) h k y e = absurd h
zip_at P (x ∷ xs) [] h k y e = absurd h
zip_at P (x ∷ xs) (z ∷ ys) h zero y e = (x, refl, subst (P x) (same_Some z y e) h.0)
zip_at P (x ∷ xs) (z ∷ ys) h (suc k) y e = zip_at P xs ys h.1 k y e

zip_names : (es : List EntryValue) (ds : List LensValue) (vs : List (Name × DefinitionValue)) → AllZip (IsDefinitionOf es) ds vs
    → map (λ (v : Name × DefinitionValue). v.0) vs ≡ map (λ (d : LensValue). d.name) ds
zip_names es [] [] h = refl
zip_names es [] (v ∷ vs) h = absurd h
zip_names es (d ∷ ds) [] h = absurd h
zip_names es (d ∷ ds) (v ∷ vs) h = λ i. h.0.name i ∷ zip_names es ds vs h.1 i

names_of_lenses : (os : List OwnValue) → map (λ (d : LensValue). d.name) (filter_map lens_in os) ≡ lens_names os
names_of_lenses [] = refl
names_of_lenses (o ∷ os) = by o (names_of_lenses os)
  where
    by : (o : OwnValue) → map (λ (d : LensValue). d.name) (filter_map lens_in os) ≡ lens_names os
        → map (λ (d : LensValue). d.name) (filter_map lens_in (o ∷ os)) ≡ lens_names (o ∷ os)
    by (lens d) h = ap (λ z. d.name ∷ z) h
    by nothing h = h
    by header h = h
    by (format w ps) h = h
    by (main b) h = h

-- ---- names of lenses, and of the nodes that they name

-- a name that an earlier line declares is among the names of the lines up to a later one
declares_before : (os : List OwnValue) (i j : ℕ) (d : LensValue) → slice_get os i ≡ Some (lens d) → i < j → DeclaresLens (take j os) d.name
declares_before [] i j d e below = let f : ⊥ = cc in absurd f
declares_before (o ∷ os) i zero d e below = absurd (omega (arith, below))
declares_before (o ∷ os) zero (suc j) d e below =
    let same : o ≡ lens d = same_Some o (lens d) e in
    subst (λ (z : OwnValue). Contains (cons_option (name_in z) (lens_names (take j os))) d.name) (sym same) (0, omega arith, refl)
declares_before (o ∷ os) (suc i) (suc j) d e below = further o (declares_before os i j d e (omega (arith, below)))
  where
    further : (o : OwnValue) → Contains (lens_names (take j os)) d.name → Contains (lens_names (take (suc j) (o ∷ os))) d.name
    further (lens f) c = (suc c.0, omega (arith, c.1), c.2)
    further nothing c = c
    further header c = c
    further (format w ps) c = c
    further (main b) c = c

-- the nodes that a lens line names are among those of all lines
named_in : (os : List OwnValue) (i : ℕ) (d : LensValue) (w : Name) → slice_get os i ≡ Some (lens d) → Contains (d.source ∷ d.view ∷ []) w
    → Contains (named_nodes os) w
named_in [] i d w e c = let f : ⊥ = cc in absurd f
named_in (o ∷ os) zero d w e c =
    let same : o ≡ lens d = same_Some o (lens d) e in
    subst (λ (z : OwnValue). Contains (nodes_in z ++ named_nodes os) w) (sym same) (Contains-append_left (d.source ∷ d.view ∷ []) (named_nodes os) w c)
named_in (o ∷ os) (suc i) d w e c = Contains-append_right (nodes_in o) (named_nodes os) w (named_in os i d w e c)

-- a name that can't be without a declaration has one
is_declared : (ks : List Name) (n : Name) → ¬ (¬ (Contains ks n)) → Contains ks n
is_declared ks n some = go (place_in n ks) refl
  where
    go : (o : Option ℕ) → place_in n ks ≡ o → Contains ks n
    go (Some p) e = there n ks p e
    go None e = absurd (some (not_there n ks e))

-- ---- programs

module _ (bytes : List ℕ) (p : ProgramValue) (h : IsLensFile bytes p) where
  definition_names : map (λ (v : Name × DefinitionValue). v.0) p.definitions ≡ lens_names h.own
  definition_names = zip_names h.entries (filter_map lens_in h.own) p.definitions h.definitions ∙ names_of_lenses h.own

  lens_name_at : (k : ℕ) (n : Name) → slice_get (lens_names h.own) k ≡ Some n
      → (d : LensValue) × (slice_get (filter_map lens_in h.own) k ≡ Some d) × (d.name ≡ n)
  lens_name_at k n e = go h.own k e
    where
      go : (xs : List OwnValue) (k : ℕ) → slice_get (lens_names xs) k ≡ Some n
          → (d : LensValue) × (slice_get (filter_map lens_in xs) k ≡ Some d) × (d.name ≡ n)
      go xs k e = by (filter_map lens_in xs) k (ap (λ z. slice_get z k) (names_of_lenses xs) ∙ e)
        where
          by : (ds : List LensValue) (k : ℕ) → slice_get (map (λ (d : LensValue). d.name) ds) k ≡ Some n
              → (d : LensValue) × (slice_get ds k ≡ Some d) × (d.name ≡ n)
          by [] k e = let f : ⊥ = cc in absurd f
          by (d ∷ ds) zero e = (d, refl, same_Some d.name n e)
          by (d ∷ ds) (suc k) e = by ds k e

  lens_names_once : HasOnce (lens_names h.own)
  lens_names_once i j n e f =
      let a = lens_name_at i n e in
      let b = lens_name_at j n f in
      let l = lens_at h.own i a.0 a.1 in
      let m = lens_at h.own j b.0 b.1 in
      let place : l.line ≡ m.line = omega (
        arith,
        less l.line m.line a.0 b.0 l.is m.is (a.2 ∙ sym b.2),
        less m.line l.line b.0 a.0 m.is l.is (b.2 ∙ sym a.2),
      ) in
      sym l.before ∙ ap (λ z. length (lens_names (take z h.own))) place ∙ m.before
    where
      less : (x y : ℕ) (d f : LensValue) → slice_get h.own x ≡ Some (lens d) → slice_get h.own y ≡ Some (lens f) → d.name ≡ f.name → ¬ (x < y)
      less x y d f at to same below =
          h.sound y (declared_twice to (subst (Contains (lens_names (take y h.own))) same (declares_before h.own x y d at below)))

  -- the line of a definition
  pub line_of : (k : ℕ) (v : Name × DefinitionValue) → slice_get p.definitions k ≡ Some v
      → (d : LensValue) × (i : ℕ) × (slice_get h.own i ≡ Some (lens d)) × IsDefinitionOf h.entries d v
  line_of k v e =
      let z = zip_at (IsDefinitionOf h.entries) (filter_map lens_in h.own) p.definitions h.definitions k v e in
      let l = lens_at h.own k z.0 z.1 in
      (z.0, l.line, l.is, z.2)

  in_range : (v : Name × DefinitionValue) (k : ℕ) → slice_get p.definitions k ≡ Some v
      → (v.1.source.place < length p.options.types) × (v.1.view.place < length p.options.types)
  in_range v k e =
      let l = line_of k v e in (
        own_in_range h.entries (named_nodes h.own) p.options.types h.types l.0.source v.1.source.place
            (named_in h.own l.1 l.0 l.0.source l.2 (0, omega arith, refl)) l.3.source,
        own_in_range h.entries (named_nodes h.own) p.options.types h.types l.0.view v.1.view.place
            (named_in h.own l.1 l.0 l.0.view l.2 (1, omega arith, refl)) l.3.view,
      )

  -- a lens of the program is the body of a line
  pub body_of_line : (l : Lens) → IsLensOf p l → (i : ℕ) × HasBody h.own i (term l)
  body_of_line _ (a_body k {n} {d} e) =
      let l = line_of k (n, d) e in
      (l.1, (lens l.0, l.2, ap Some l.3.body))
  body_of_line _ the_main =
      let a = at_place h.own (main (term p.main)) h.main in
      (a.0, (main (term p.main), a.1, refl))

  calls_declared : (l : Lens) (n : Name) → IsLensOf p l → HasCall l n → Contains (map (λ (v : Name × DefinitionValue). v.0) p.definitions) n
  calls_declared l n is call_of =
      let b = body_of_line l is in
      subst (λ (z : List Name). Contains z n) (sym definition_names)
      (is_declared (lens_names h.own) n (λ none_declared. h.sound b.0 (calls_no_lens b.1 call_of none_declared)))

  line_rows : (i : ℕ) (o : OwnValue) (l : Lens) → slice_get h.own i ≡ Some o → body_in o ≡ Some (term l) → AreSound l
  line_rows i o l at body =
      let within = slice_get_within h.own i o at in
      let line = get_or (texts_of bytes) i [] in
      let text = slice_get-get_or (texts_of bytes) i [] (omega (arith, within, h.read.own)) in
      go o (h.read.own_at i line o text at) body
    where
      go : (o : OwnValue) → IsOwnBehind (take i h.entries) (take i h.own) (get_or (texts_of bytes) i []) o → body_in o ≡ Some (term l) → AreSound l
      go (lens d) k e =
          let same : d.body ≡ term l = same_Some d.body (term l) e in
          let b = subst (IsBody k.0.0) same k.0.2 in
          text_rows k.0.0 l b.2
      go (main c) k e =
          let same : c ≡ term l = same_Some c (term l) e in
          let b = subst (IsBody k.0.0) same k.0.2 in
          text_rows k.0.0 l b.2
      go nothing k e = let f : ⊥ = cc in absurd f
      go header k e = let f : ⊥ = cc in absurd f
      go (format w ps) k e = let f : ⊥ = cc in absurd f

  pub node_sound : HasNoBad (IsBadNodeLine h.entries)
  node_sound i bad = h.sound i (of_node bad)

  pub file_formed : IsWellFormed p
  file_formed = record {
    named = type_count h.entries node_sound (named_nodes h.own) p.options.type_names p.options.types h.type_names h.types;
    type_names = type_names_once h.entries node_sound (named_nodes h.own) p.options.type_names p.options.types h.type_names h.types;
    types = types_formed h.entries node_sound (named_nodes h.own) p.options.type_names p.options.types h.type_names h.types;
    definition_names = subst HasOnce (sym definition_names) lens_names_once;
    in_range = λ k v lt. in_range (get_or p.definitions k v) k (slice_get-get_or p.definitions k v lt);
    calls = calls_declared;
    rows = λ l ls is stands. let b = body_of_line l is in line_rows b.0 b.1.0 l b.1.1 b.1.2 ls stands;
  }
