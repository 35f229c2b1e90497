-- Lines that stand in the order of a lens file are read, each as what it says.
use Rattle.std.proofs.Common.{◌≡◌, ℕ, suc, true, List, [], ◌∷◌, ◌++◌, map, refl, sym, subst, arith, append_assoc}
use Rattle.std.specs.List.{Contains}
use mathlib.Core.List.{append-nil}
use Rattle.hm_tree.specs.Names.{Name}
use Rattle.hm_schema_lines.specs.NodeLines.{NodeLineValue, IsNodeLine}
use Rattle.hm_schema_lines.specs.Entries.{EntryValue, unknown, says}
use Rattle.hm_schema_writer.proofs.Laws.{node_entry}
use Rattle.hm_focal.specs.declared.lines.Stage.{Stage}
use Rattle.hm_focal.specs.declared.lines.Stage.TheVariants.{Header, Format, Nodes, Lenses}
use Rattle.hm_focal.specs.OwnLines.{BodyValue, LensValue, OwnValue, nothing, header, format, lens, main, IsHeader, IsFormat, IsLensLine, IsMainLine, IsOwn, IsReadOwn}
use Rattle.hm_focal.specs.Lines.{AreLines}
use Rattle.hm_focal.specs.Stages.{placed_own, next_stage}
use Rattle.hm_focal.proofs.LineKinds.{node_own, own_entry}
use Rattle.hm_focal.proofs.Placing.{IsReadTo, none_read, one_read, all_read}

-- lens lines may stand next
data IsOpen : Stage → Type 0 where
  behind_nodes : IsOpen Nodes
  behind_lenses : IsOpen Lenses

may_end : (b : BodyValue) (s : Stage) → IsOpen s → placed_own s (main b) ≡ main b
may_end b _ behind_nodes = refl
may_end b _ behind_lenses = refl

-- ---- one line after another

module _ (whole : List (List ℕ)) where
  moved : (rest : List (List ℕ)) (es fs : List EntryValue) (os ps : List OwnValue) (s : Stage) → es ≡ fs → os ≡ ps → IsReadTo whole rest es os s
      → IsReadTo whole rest fs ps s
  moved rest es fs os ps s e o h = subst (λ (z : List EntryValue × List OwnValue). IsReadTo whole rest z.0 z.1 s) (λ i. (e i, o i)) h

  -- a line of the file's own, in its place
  own_next : (rest : List (List ℕ)) (es : List EntryValue) (os : List OwnValue) (s : Stage) (line : List ℕ) (o : OwnValue) → IsOwn line o
      → placed_own s o ≡ o → IsReadTo whole (line ∷ rest) es os s → IsReadTo whole rest (es ++ unknown ∷ []) (os ++ o ∷ [])
      (next_stage s true o)
  own_next rest es os s line o k in_place h =
      one_read whole (line ∷ rest) rest es (es ++ unknown ∷ []) os (os ++ o ∷ []) s (next_stage s true o) h line refl unknown unknown
      (own_entry line o k) refl o o (read o k) (sym in_place) refl refl refl
    where
      read : (o : OwnValue) → IsOwn line o → IsReadOwn line o
      read nothing k = absurd k
      read header k = k
      read (format w ps) k = k
      read (lens d) k = k
      read (main b) k = k

  nodes_next : (text : NodeLineValue → List ℕ) (rest : List (List ℕ)) (xs : List NodeLineValue)
      → ((x : NodeLineValue) → Contains xs x → IsNodeLine (text x) x) → (es : List EntryValue) (os : List OwnValue)
      → IsReadTo whole (map text xs ++ rest) es os Nodes → IsReadTo whole rest (es ++ map says xs) (os ++ map (λ x. nothing) xs) Nodes
  nodes_next text rest [] each es os h =
      moved rest es (es ++ []) os (os ++ []) Nodes (sym (append-nil es)) (sym (append-nil os)) h
  nodes_next text rest (x ∷ xs) each es os h =
      let here = each x (0, omega arith, refl) in
      moved rest ((es ++ says x ∷ []) ++ map says xs) (es ++ map says (x ∷ xs)) ((os ++ nothing ∷ []) ++ map (λ x. nothing) xs)
      (os ++ nothing ∷ map (λ x. nothing) xs) Nodes (append_assoc es (says x ∷ []) (map says xs)) (append_assoc os (nothing ∷ []) (map (λ x. nothing) xs))
      (nodes_next text rest xs (λ y c. each y (suc c.0, omega (arith, c.1), c.2)) (es ++ says x ∷ []) (os ++ nothing ∷ [])
      (one_read whole (text x ∷ (map text xs ++ rest)) (map text xs ++ rest) es (es ++ says x ∷ []) os (os ++ nothing ∷ []) Nodes Nodes h
      (text x) refl (says x) (says x) (node_entry (text x) x here) refl nothing nothing (node_own (text x) x here) refl refl refl refl))

  -- behind lens lines, whether there are any or not
  record AreNext (rest : List (List ℕ)) (es : List EntryValue) (os : List OwnValue) : Type 0 where
    stage : Stage
    is_open : IsOpen stage
    read : IsReadTo whole rest es os stage

  one_lens : (rest : List (List ℕ)) (es : List EntryValue) (os : List OwnValue) (line : List ℕ) (d : LensValue) → IsLensLine line d
      → AreNext (line ∷ rest) es os → AreNext rest (es ++ unknown ∷ []) (os ++ lens d ∷ [])
  one_lens rest es os line d k h = go h.stage h.is_open h.read
    where
      go : (s : Stage) → IsOpen s → IsReadTo whole (line ∷ rest) es os s → AreNext rest (es ++ unknown ∷ []) (os ++ lens d ∷ [])
      go _ behind_nodes r = record {
        stage = Lenses;
        is_open = behind_lenses;
        read = own_next rest es os Nodes line (lens d) k refl r;
      }
      go _ behind_lenses r = record {
        stage = Lenses;
        is_open = behind_lenses;
        read = own_next rest es os Lenses line (lens d) k refl r;
      }

  lenses_next : {D : Type 0} (text : D → List ℕ) (value : D → LensValue) (rest : List (List ℕ)) (ds : List D)
      → ((v : D) → Contains ds v → IsLensLine (text v) (value v)) → (es : List EntryValue) (os : List OwnValue)
      → AreNext (map text ds ++ rest) es os → AreNext rest (es ++ map (λ v. unknown) ds) (os ++ map (λ v. lens (value v)) ds)
  lenses_next text value rest [] each es os h =
      subst (λ (z : List EntryValue × List OwnValue). AreNext rest z.0 z.1) (λ i. (sym (append-nil es) i, sym (append-nil os) i)) h
  lenses_next text value rest (v ∷ ds) each es os h =
      subst (λ (z : List EntryValue × List OwnValue). AreNext rest z.0 z.1)
      (λ i. (
        append_assoc es (unknown ∷ []) (map (λ v. unknown) ds) i,
        append_assoc os (lens (value v) ∷ []) (map (λ v. lens (value v)) ds) i,
      ))
      (lenses_next text value rest ds (λ w c. each w (suc c.0, omega (arith, c.1), c.2)) (es ++ unknown ∷ []) (os ++ lens (value v) ∷ [])
      (one_lens (map text ds ++ rest) es os (text v) (value v) (each v (0, omega arith, refl)) h))

  last_line : (es : List EntryValue) (os : List OwnValue) (line : List ℕ) (b : BodyValue) → IsMainLine line b → AreNext (line ∷ []) es os
      → AreLines whole (es ++ unknown ∷ []) (os ++ main b ∷ [])
  last_line es os line b k h =
      all_read whole [] (es ++ unknown ∷ []) (os ++ main b ∷ []) _
      (own_next [] es os h.stage line (main b) k (may_end b h.stage h.is_open) h.read) refl

-- ---- a file

pub ordered_lines : {D : Type 0} (first second last : List ℕ) (w : Name) (ps : List (Name × List Name)) (b : BodyValue)
    (node_text : NodeLineValue → List ℕ) (xs : List NodeLineValue) (text : D → List ℕ) (value : D → LensValue) (ds : List D)
    → IsHeader first → IsFormat second w ps → ((x : NodeLineValue) → Contains xs x → IsNodeLine (node_text x) x)
    → ((v : D) → Contains ds v → IsLensLine (text v) (value v)) → IsMainLine last b
    → AreLines (first ∷ second ∷ (map node_text xs ++ (map text ds ++ last ∷ [])))
    (unknown ∷ unknown ∷ (map says xs ++ (map (λ v. unknown) ds ++ unknown ∷ [])))
    (header ∷ format w ps ∷ (map (λ x. nothing) xs ++ (map (λ v. lens (value v)) ds ++ main b ∷ [])))
ordered_lines first second last w ps b node_text xs text value ds is_header is_format nodes lenses is_main =
    let behind : List (List ℕ) = map text ds ++ last ∷ [] in
    let whole : List (List ℕ) = first ∷ second ∷ (map node_text xs ++ behind) in
    let es : List EntryValue = unknown ∷ unknown ∷ map says xs in
    let os : List OwnValue = header ∷ format w ps ∷ map (λ x. nothing) xs in
    let headed = own_next whole (second ∷ (map node_text xs ++ behind)) [] [] Header first header is_header refl (none_read whole [] [] refl refl) in
    let formatted = own_next whole (map node_text xs ++ behind) (unknown ∷ []) (header ∷ []) Format second (format w ps) is_format refl headed in
    let with_nodes = nodes_next whole node_text behind xs nodes (unknown ∷ unknown ∷ []) (header ∷ format w ps ∷ []) formatted in
    let with_lenses = lenses_next whole text value (last ∷ []) ds lenses es os (record { stage = Nodes; is_open = behind_nodes; read = with_nodes }) in
    subst (λ (z : List EntryValue × List OwnValue). AreLines whole z.0 z.1)
    (λ i. (append_assoc es (map (λ v. unknown) ds) (unknown ∷ []) i, append_assoc os (map (λ v. lens (value v)) ds) (main b ∷ []) i))
    (last_line whole (es ++ map (λ v. unknown) ds) (os ++ map (λ v. lens (value v)) ds) last b is_main with_lenses)
