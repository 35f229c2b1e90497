-- The text of a schema is a file of it.
use Rattle.std.proofs.Common.{◌≡◌, ◌≢◌, ℕ, zero, suc, ◌<◌, ◌^◌, T, List, [], ◌∷◌, ◌++◌, length, get_or, drop, map, slice_get, All, Some, refl, sym, ap, ◌∙◌, subst, arith, codes}
use Rattle.std.specs.List.{AllZip, Contains}
use Rattle.std.proofs.lemmas.Fmt.{decimal_injective}
use Rattle.std.proofs.lemmas.List.{append-nil}
use Rattle.std.proofs.lemmas.List.FromFn.{length-map-range_with_len, get_or-map-range_with_len}
use Rattle.std.proofs.lemmas.Option.{same_Some, slice_get_within, slice_get-get_or}
use Rattle.hm_tree.specs.Names.{Name}
use Rattle.hm_schema.specs.Values.{SchemaValue}
use Rattle.hm_schema.specs.WellFormed.{IsWellFormed}
use Rattle.hm_schema_lines.specs.declared.token.Token.TheVariants.{Word}
use Rattle.hm_schema_lines.specs.Tokens.{IsToken, one, alone, before}
use Rattle.hm_schema_lines.specs.NodeLines.{NodeLineValue, IsNodeLine}
use Rattle.hm_schema_lines.specs.Entries.{EntryValue, unknown, says, IsEntry, texts_of, AreEntries}
use Rattle.hm_schema_lines.specs.BadLines.{lines_before}
use Rattle.hm_schema_lines.specs.FirstBad.{HasNoBad}
use Rattle.hm_schema_writer.specs.Writing.{line_text}
use Rattle.hm_schema_writer.specs.WrittenNodes.{nodes_lines, IsWritable, AreOfNodes}
use Rattle.hm_schema_lines.proofs.Laws.{at_place, begins, first_letter}
use Rattle.hm_schema_writer.proofs.Laws.{decimal_word, spaced_line, node_line_line, AreOneLine, lines_each, texts_are, not_skipped, node_entry, front_quiet, mapped, written_reads, written_sound, written_node, written_places, written_nodes}
use Rattle.hm_schema_text.specs.Head.{IsHeader, IsRoot, IsHeaderAt, IsRootAt, IsNth}
use Rattle.hm_schema_text.specs.BadLines.{IsBadLine, no_header, no_root, names_no_node, unreadable, of_node}
use Rattle.hm_schema_text.specs.SchemaFiles.{IsSchemaFile}
use Rattle.hm_schema_text.specs.Writing.{number_name, number_names, header_text, root_text, schema_lines, schema_text, IsHeld, IsWithinLimits}
use Rattle.hm_schema_text.proofs.Judging.{root_once, nth_once}

-- ---- the names of nodes

pub names_long : (n : ℕ) → length (number_names n) ≡ n
names_long n = length-map-range_with_len number_name 0 n

name_there : (n i : ℕ) → i < n → slice_get (number_names n) i ≡ Some (number_name i)
name_there n i below =
    slice_get-get_or (number_names n) i [] (omega (arith, below, names_long n))
    ∙ ap Some (get_or-map-range_with_len number_name 0 n i i [] below (omega arith))

-- a name is that of its place
its_place : (n i : ℕ) (w : Name) → slice_get (number_names n) i ≡ Some w → (i < n) × (number_name i ≡ w)
its_place n i w is =
    let below : i < n = omega (arith, slice_get_within (number_names n) i w is, names_long n) in
    (below, same_Some (number_name i) w (sym (name_there n i below) ∙ is))

number_once : (i j : ℕ) → i < 2 ^ 64 → j < 2 ^ 64 → number_name i ≡ number_name j → i ≡ j
number_once i j f g same = decimal_injective i j f g (ap (drop 1) same)

number_word : (n : ℕ) → n < 2 ^ 64 → IsToken (Word (number_name n))
number_word n fits = (omega arith, subst T (sym (decimal_word n fits)) tt)

not_empty : (n : ℕ) → number_name n ≢ codes "Empty"
not_empty n same = omega (arith, ap (λ (z : List ℕ). get_or z 0 0) same)

none_empty : (n : ℕ) → ¬ (Contains (number_names n) (codes "Empty"))
none_empty n c = let p = at_place (number_names n) (codes "Empty") c in not_empty p.0 (its_place n p.0 (codes "Empty") p.1).1

not_alone : (n : ℕ) → ¬ (Contains (number_name n ∷ []) (codes "Empty"))
not_alone n c = let p = at_place (number_name n ∷ []) (codes "Empty") c in go p.0 p.1
  where
    go : (m : ℕ) → ¬ (slice_get (number_name n ∷ []) m ≡ Some (codes "Empty"))
    go zero e = not_empty n (same_Some (number_name n) (codes "Empty") e)
    go (suc m) e = let no : ⊥ = cc in no

-- ---- the lines of the head

header_reads : IsHeader header_text
header_reads = before (omega arith, tt) one (before (omega arith, tt) one (alone (omega arith, tt)))

header_entry : IsEntry header_text unknown
header_entry = (
  not_skipped header_text 104 0 104 refl (λ e. omega (arith, e)) refl (λ e. omega (arith, e)),
  λ x line. let b = begins header_text _ header_reads x line in let e = ap first_letter b.1 in omega (arith, e),
)

module _ (w : Name) (word : IsToken (Word w)) where
  root_reads : IsRoot (codes "root " ++ w) w
  root_reads = before (omega arith, tt) one (alone word)

  root_entry : IsEntry (codes "root " ++ w) unknown
  root_entry = (
    not_skipped (codes "root " ++ w) 114 0 114 refl (λ e. omega (arith, e)) refl (λ e. omega (arith, e)),
    λ x line. let b = begins (codes "root " ++ w) _ root_reads x line in let e = ap first_letter b.1 in omega (arith, e),
  )

-- ---- all lines

nodes_entries : (xs : List NodeLineValue) → ((x : NodeLineValue) → Contains xs x → IsNodeLine (line_text x) x)
    → AllZip IsEntry (map line_text xs) (map says xs)
nodes_entries [] each = tt
nodes_entries (x ∷ xs) each =
    (node_entry (line_text x) x (each x (0, omega arith, refl)), nodes_entries xs (λ y c. each y (suc c.0, omega (arith, c.1), c.2)))

module _ (s : SchemaValue) (formed : IsWellFormed s) (held : All IsHeld s.nodes) (limits : IsWithinLimits s) where
  abbrev names : List Name
  names = number_names (length s.nodes)

  abbrev lines : List NodeLineValue
  lines = nodes_lines names s.nodes

  abbrev entries : List EntryValue
  entries = unknown ∷ unknown ∷ map says lines

  abbrev root_name : Name
  root_name = number_name s.root.place

  fits : (i : ℕ) → i < length s.nodes → i < 2 ^ 64
  fits i below = omega (arith, below, limits.nodes)

  writable : IsWritable names s.nodes
  writable = record {
    named = names_long (length s.nodes);
    once = λ i j w at also.
        let a = its_place (length s.nodes) i w at in
        let b = its_place (length s.nodes) j w also in
        number_once i j (fits i a.0) (fits j b.0) (a.1 ∙ sym b.1);
    words = λ i w is.
        let a = its_place (length s.nodes) i w is in
        subst (λ (z : Name). IsToken (Word z)) a.1 (number_word i (fits i a.0));
    each = λ k d below. record {
      formed = formed.nodes k d below;
      twins = limits.plain (record { place = k }) (get_or s.nodes k d) (slice_get-get_or s.nodes k d below);
      texts = (held k d below).texts;
      shapes = (held k d below).counts;
      few_shapes = limits.shapes k d below;
    };
    few = λ i w is differs. let a = its_place (length s.nodes) i w is in omega (arith, a.0, limits.nodes);
    last = λ i is. absurd (not_empty i (its_place (length s.nodes) i (codes "Empty") is).1);
  }

  are_of_nodes : AreOfNodes names s.nodes entries
  are_of_nodes = record {
    front = unknown ∷ unknown ∷ [];
    back = [];
    is = ap (λ (z : List EntryValue). unknown ∷ unknown ∷ z) (sym (append-nil (map says lines)));
    before = front_quiet;
    behind = λ x c. omega (arith, c.1);
  }

  reads : (x : NodeLineValue) → Contains lines x → IsNodeLine (line_text x) x
  reads = written_reads names s.nodes writable

  root_word : IsToken (Word root_name)
  root_word = number_word s.root.place (fits s.root.place formed.root)

  one_lines : AreOneLine (schema_lines s)
  one_lines = (
    spaced_line _ header_text header_reads,
    (
      spaced_line _ (root_text s.root) (root_reads root_name root_word),
      lines_each line_text lines (λ x c. node_line_line (line_text x) x (reads x c)),
    ),
  )

  texts : texts_of (schema_text s) ≡ schema_lines s
  unfolding schema_text
  texts = texts_are (schema_lines s) one_lines

  read : AreEntries (schema_text s) entries
  read = subst (λ (z : List (List ℕ)). AllZip IsEntry z entries) (sym texts) (
    header_entry,
    (
      root_entry root_name root_word,
      nodes_entries lines reads,
    ),
  )

  -- ---- the head

  first : IsNth entries 0 0
  first = record { entry = unknown; is = refl; counted = refl; before = refl }

  second : IsNth entries 1 1
  second = record { entry = unknown; is = refl; counted = refl; before = refl }

  header_at : IsHeaderAt (schema_text s) 0
  header_at = (header_text, ap (λ (z : List (List ℕ)). slice_get z 0) texts, header_reads)

  root_at : IsRootAt (schema_text s) 1 root_name
  root_at = (root_text s.root, ap (λ (z : List (List ℕ)). slice_get z 1) texts, root_reads root_name root_word)

  root_there : slice_get names s.root.place ≡ Some root_name
  root_there = name_there (length s.nodes) s.root.place formed.root

  -- ---- no line is bad

  -- all lines behind the head are of nodes
  head_alone : (i : ℕ) → slice_get entries i ≡ Some unknown → i < 2
  head_alone zero is = omega arith
  head_alone (suc zero) is = omega arith
  head_alone (suc (suc i)) is =
      let m = mapped says lines i unknown is in
      let no : says m.0 ≡ unknown = m.2 in
      let f : ⊥ = cc in absurd f

  few_before : (i : ℕ) → i < 2 → lines_before entries i < 2
  few_before zero below = omega arith
  few_before (suc zero) below = omega arith
  few_before (suc (suc i)) below = absurd (omega (arith, below))

  not_bad : HasNoBad (IsBadLine (schema_text s) entries)
  not_bad i (no_header n none) = none (subst (IsHeaderAt (schema_text s)) (nth_once entries 0 0 i first n) header_at)
  not_bad i (no_root n none) =
      none root_name
      (subst (λ (z : ℕ). IsRootAt (schema_text s) z root_name) (nth_once entries 1 1 i second n) root_at)
  not_bad i (names_no_node {w} n root none) =
      let there = subst (λ (z : ℕ). IsRootAt (schema_text s) z w) (nth_once entries 1 i 1 n second) root in
      let same = root_once (schema_text s) 1 root_name w root_at there in
      none (written_node names s.nodes writable entries are_of_nodes s.root.place w (root_there ∙ ap Some same))
  not_bad i (unreadable is two) = omega (arith, few_before i (head_alone i is), two)
  not_bad i (of_node bad) = written_sound names s.nodes writable entries are_of_nodes i bad

  -- ---- what the lines describe

  pub written_schema_reads : IsSchemaFile (schema_text s) s
  written_schema_reads = record {
    entries = entries;
    read = read;
    sound = not_bad;
    name = root_name;
    named = record { place = 1; second = second; root = root_at };
    nodes = written_nodes names s.nodes writable entries are_of_nodes (root_name ∷ [])
        (λ c. absurd (none_empty (length s.nodes) c)) (λ c. absurd (not_alone s.root.place c));
    root = written_places names s.nodes writable entries are_of_nodes s.root.place root_name root_there;
  }
