-- The laws of schema files: reading one comes to one thing alone.
use Rattle.std.proofs.Common.{◌≡◌, ℕ, ◌<◌, List, [], ◌∷◌, length, count_by, Result, Ok, Err, ap, subst, ◌∙◌, arith}
use Rattle.hm_tree.specs.Names.{Name}
use Rattle.hm_schema.specs.Values.{SchemaValue}
use Rattle.hm_schema.specs.Membership.{HasNoTwins}
use Rattle.hm_schema_lines.specs.Entries.{EntryValue}
use Rattle.hm_schema_lines.specs.BadLines.{is_counted}
use Rattle.hm_schema_lines.specs.FirstBad.{IsTold, at, behind_all}
use Rattle.hm_schema_lines.specs.Nodes.{IsPlaceOf, AreNodesOf}
use Rattle.hm_schema_lines.proofs.Laws.{entries_once, counted_below, nodes_once, place_once, no_twins, told_once}
use Rattle.hm_schema_text.specs.Head.{NamesRoot, IsRootAt}
use Rattle.hm_schema_text.specs.BadLines.{IsBadLine, of_node, IsFirstBadLine}
use Rattle.hm_schema_text.specs.SchemaFiles.{IsSchemaFile, ReadsSchema}
use Rattle.hm_schema_text.specs.declared.fault.SchemaFault.{SchemaFault}
use Rattle.hm_schema_text.specs.declared.fault.SchemaFault.TheVariants.{BadSchema, Memory}
use Rattle.hm_schema_text.proofs.Judging.{nth_once, root_once}

-- ---- the second line

root_name_once : (bytes : List ℕ) (es : List EntryValue) (w v : Name) → NamesRoot bytes es w → NamesRoot bytes es v → w ≡ v
root_name_once bytes es w v h k =
    let place = nth_once es 1 k.place h.place k.second h.second in
    root_once bytes h.place w v h.root (subst (λ i. IsRootAt bytes i v) place k.root)

-- ---- what is told, and the schema

pub line_once : (bytes : List ℕ) (a b : ℕ) → IsFirstBadLine bytes a → IsFirstBadLine bytes b → a ≡ b
line_once bytes a b h k =
    told_once (IsBadLine bytes h.entries) (count_by is_counted h.entries < 2) (length h.entries) a b h.told
    (subst (λ es. IsTold (IsBadLine bytes es) (count_by is_counted es < 2) (length es) b) (entries_once bytes k.entries h.entries k.read h.read)
    k.told)

pub schema_no_line : (bytes : List ℕ) (s : SchemaValue) (line : ℕ) → IsSchemaFile bytes s → IsFirstBadLine bytes line → ⊥
schema_no_line bytes s line h k =
    go line (subst (λ es. IsTold (IsBadLine bytes es) (count_by is_counted es < 2) (length es) line)
    (entries_once bytes k.entries h.entries k.read h.read) k.told)
  where
    go : (n : ℕ) → IsTold (IsBadLine bytes h.entries) (count_by is_counted h.entries < 2) (length h.entries) n → ⊥
    go _ (at {i} first) = h.sound i first.bad
    go _ (behind_all none few) =
        let n = h.named.second in
        let more = counted_below is_counted h.entries h.named.place n.entry n.is n.counted in
        omega (arith, n.before)

pub schema_once : (bytes : List ℕ) (s t : SchemaValue) → IsSchemaFile bytes s → IsSchemaFile bytes t → s ≡ t
schema_once bytes s t h k =
    let es = h.entries in
    let same = entries_once bytes k.entries es k.read h.read in
    let name = root_name_once bytes es k.name h.name (subst (λ z. NamesRoot bytes z k.name) same k.named) h.named in
    let nodes = subst (λ w. AreNodesOf es (w ∷ []) t.nodes) name (subst (λ z. AreNodesOf z (k.name ∷ []) t.nodes) same k.nodes) in
    let root = subst (λ (w : Name). IsPlaceOf es w t.root.place) name (subst (λ z. IsPlaceOf z k.name t.root.place) same k.root) in
    ap (λ z. record { nodes = z; root = s.root }) (nodes_once es (h.name ∷ []) s.nodes t.nodes h.nodes nodes)
    ∙ ap (λ p. record { nodes = t.nodes; root = record { place = p } })
    (place_once es (λ i bad. h.sound i (of_node bad)) h.name s.root.place t.root.place h.root root)

pub schema_no_twins : (bytes : List ℕ) (s : SchemaValue) → IsSchemaFile bytes s → HasNoTwins s
schema_no_twins bytes s h i n is = no_twins h.entries (h.name ∷ []) s.nodes h.nodes i.place n is

-- reading comes to one thing alone
pub schema_reads_once : (bytes : List ℕ) (r s : Result SchemaValue SchemaFault) → ReadsSchema bytes r → ReadsSchema bytes s → r ≡ s
schema_reads_once bytes (Ok s) (Ok t) h k = ap (λ (z : SchemaValue). Ok z) (schema_once bytes s t h k)
schema_reads_once bytes (Ok s) (Err (BadSchema line)) h k = absurd (schema_no_line bytes s line h k)
schema_reads_once bytes (Err (BadSchema line)) (Ok s) h k = absurd (schema_no_line bytes s line k h)
schema_reads_once bytes (Err (BadSchema line)) (Err (BadSchema other)) h k = ap (λ (z : ℕ). Err (BadSchema z)) (line_once bytes line other h k)
schema_reads_once bytes (Err Memory) s h k = absurd h
schema_reads_once bytes r (Err Memory) h k = absurd k
