-- The laws of lens files: reading one comes to one thing alone. The crates above also cite that the program of a file is well formed; which lines of its
-- file its lenses are, that there are as many as names, and that no line of a node is bad; and that lines in the order of a file are read as what they say.
use Rattle.std.proofs.Common.{◌≡◌, inl, inr, ℕ, List, length, filter_map, Result, Ok, Err, refl, sym, ap, ◌∙◌, subst, arith}
use Rattle.std.specs.List.{AllZip, Contains}
use Rattle.hm_tree.specs.Names.{Name}
use Rattle.hm_terms.specs.Lenses.{DefinitionValue}
use Rattle.hm_terms.specs.Programs.{ProgramValue}
use Rattle.hm_schema_lines.specs.Entries.{EntryValue, texts_of}
use Rattle.hm_schema_lines.specs.FirstBad.{HasNoBad, IsTold, at, behind_all}
use Rattle.hm_schema_lines.specs.Nodes.{IsPlaceOf, AreTypeNames, AreNodesOf}
use Rattle.hm_schema_lines.proofs.Laws.{at_place, counted_below, names_are_one, nodes_once, place_once, told_once, zip_once}
use Rattle.hm_focal.specs.OwnLines.{term, LensValue, OwnValue, format, main, is_format, is_main, lens_in, named_nodes}
use Rattle.hm_focal.specs.BadLines.{IsBadLine, of_node, Lacks, IsFirstBadLine}
use Rattle.hm_focal.specs.LensFiles.{IsDefinitionOf, IsLensFile, ReadsLens}
use Rattle.hm_focal.specs.declared.fault.LensFault.{LensFault}
use Rattle.hm_focal.specs.declared.fault.LensFault.TheVariants.{BadLens, Memory}
use Rattle.hm_focal.proofs.Once.{lines_once, one_format, one_main}
pub use Rattle.hm_focal.proofs.Formed.{lens_at, zip_at, line_of, body_of_line, node_sound, file_formed}
pub use Rattle.hm_focal.proofs.LensNames.{count_lenses}
pub use Rattle.hm_focal.proofs.Ordered.{ordered_lines}

-- what is told of some lines is told of the same lines of the file
told_of : (bytes : List ℕ) (line : ℕ) (k : IsFirstBadLine bytes line) (es : List EntryValue) (os : List OwnValue) → k.entries ≡ es → k.own ≡ os
    → IsTold (IsBadLine es os) (Lacks os) (length es) line
told_of bytes line k es os e o =
    subst (λ (z : List EntryValue × List OwnValue). IsTold (IsBadLine z.0 z.1) (Lacks z.1) (length z.0) line) (λ i. (e i, o i)) k.told

pub line_once : (bytes : List ℕ) (a b : ℕ) → IsFirstBadLine bytes a → IsFirstBadLine bytes b → a ≡ b
line_once bytes a b h k =
    let same = lines_once (texts_of bytes) k.entries h.entries k.own h.own k.read h.read in
    told_once (IsBadLine h.entries h.own) (Lacks h.own) (length h.entries) a b h.told (told_of bytes b k h.entries h.own same.0 same.1)

pub lens_no_line : (bytes : List ℕ) (p : ProgramValue) (line : ℕ) → IsLensFile bytes p → IsFirstBadLine bytes line → ⊥
lens_no_line bytes p line h k =
    let same = lines_once (texts_of bytes) k.entries h.entries k.own h.own k.read h.read in
    go line (told_of bytes line k h.entries h.own same.0 same.1)
  where
    none_lacks : ¬ (Lacks h.own)
    none_lacks (inl few) =
        let a = at_place h.own (format p.format p.options.pairs) h.format in
        omega (arith, counted_below is_format h.own a.0 (format p.format p.options.pairs) a.1 refl, few)
    none_lacks (inr few) =
        let a = at_place h.own (main (term p.main)) h.main in
        omega (arith, counted_below is_main h.own a.0 (main (term p.main)) a.1 refl, few)

    go : (n : ℕ) → IsTold (IsBadLine h.entries h.own) (Lacks h.own) (length h.entries) n → ⊥
    go _ (at {i} first) = h.sound i first.bad
    go _ (behind_all none lacks) = none_lacks lacks

module _ (es : List EntryValue) (os : List OwnValue) (sound : HasNoBad (IsBadLine es os)) where
  place_one : (w : Name) (a b : ℕ) → IsPlaceOf es w a → IsPlaceOf es w b → a ≡ b
  place_one = place_once es (λ i bad. sound i (of_node bad))

  definition_once : (d : LensValue) (v w : Name × DefinitionValue) → IsDefinitionOf es d v → IsDefinitionOf es d w → v ≡ w
  definition_once d v w h k =
      let name = h.name ∙ sym k.name in
      let source = place_one d.source v.1.source.place w.1.source.place h.source k.source in
      let view = place_one d.view v.1.view.place w.1.view.place h.view k.view in
      let both : term v.1.body ≡ term w.1.body = sym h.body ∙ k.body in
      let body : v.1.body ≡ w.1.body = cc in
      λ i. (name i, record { source = record { place = source i }; view = record { place = view i }; body = body i })

pub lens_once : (bytes : List ℕ) (p q : ProgramValue) → IsLensFile bytes p → IsLensFile bytes q → p ≡ q
lens_once bytes p q h k =
    let es = h.entries in
    let os = h.own in
    let same = lines_once (texts_of bytes) k.entries es k.own os k.read h.read in
    let nodes = ap named_nodes same.1 in
    let form = one_format (texts_of bytes) es os h.read p.format q.format p.options.pairs q.options.pairs h.format
    (subst (λ z. Contains z (format q.format q.options.pairs)) same.1 k.format) in
    let names = names_are_one es (named_nodes os) p.options.type_names q.options.type_names h.type_names
    (subst (λ (z : List EntryValue × List Name). AreTypeNames z.0 z.1 q.options.type_names) (λ i. (same.0 i, nodes i)) k.type_names) in
    let types = nodes_once es (named_nodes os) p.options.types q.options.types h.types
    (subst (λ (z : List EntryValue × List Name). AreNodesOf z.0 z.1 q.options.types) (λ i. (same.0 i, nodes i)) k.types) in
    let definitions = zip_once (IsDefinitionOf es) (definition_once es os h.sound) (filter_map lens_in os) p.definitions q.definitions h.definitions
    (subst (λ (z : List EntryValue × List OwnValue). AllZip (IsDefinitionOf z.0) (filter_map lens_in z.1) q.definitions)
    (λ i. (same.0 i, same.1 i)) k.definitions) in
    let last = one_main (texts_of bytes) es os h.read p.main q.main h.main (subst (λ z. Contains z (main (term q.main))) same.1 k.main) in
    λ i. record {
      format = form.0 i;
      options = record { pairs = form.1 i; type_names = names i; types = types i };
      definitions = definitions i;
      main = last i;
    }

-- reading comes to one thing alone
pub lens_reads_once : (bytes : List ℕ) (r s : Result ProgramValue LensFault) → ReadsLens bytes r → ReadsLens bytes s → r ≡ s
lens_reads_once bytes (Ok p) (Ok q) h k = ap (λ (z : ProgramValue). Ok z) (lens_once bytes p q h k)
lens_reads_once bytes (Ok p) (Err (BadLens line)) h k = absurd (lens_no_line bytes p line h k)
lens_reads_once bytes (Err (BadLens line)) (Ok p) h k = absurd (lens_no_line bytes p line k h)
lens_reads_once bytes (Err (BadLens line)) (Err (BadLens other)) h k = ap (λ (z : ℕ). Err (BadLens z)) (line_once bytes line other h k)
lens_reads_once bytes (Err Memory) s h k = absurd h
lens_reads_once bytes r (Err Memory) h k = absurd k
