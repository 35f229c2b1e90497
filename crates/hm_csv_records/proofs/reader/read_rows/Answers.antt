use Rattle.std.proofs.Common.{Bor, List, ℕ, ◌≡◌, ◌∙◌, sym, refl, rules, inl, inr, map, Some, ◌∷◌, []}
use Rattle.std.proofs.lemmas.List.{map-append, length-map}
use Rattle.csv.specs.Reading.{Reached, default_config, strip_bom}
use Rattle.csv.specs.Records.{fields_of}
use Rattle.csv.specs.declared.parser.State.TheVariants as st
use Rattle.csv.proofs.ReadFacts.{rows-more}
use Rattle.hm_csv_records.specs.Reads.{RowsFaults}
use Rattle.hm_csv_records.proofs.Texts.{row_text}
use Rattle.hm_csv_records.proofs.Rows.{expects_more, map_nil, refused_by, refused_row, told}
use Rattle.hm_csv_records.proofs.reader.read_rows.Goals as goal

pub loop-row-init : goal.loop-row-init
unfolding Reached
loop-row-init c =
    let fr = c.from_reader-reader.ensures in
    let e = c.has_headers.ensures in
    let start = c.into_iter-row-iterator.ensures.into_iter_gives ∙ refl in
    let rdr = c.into_byte_records-row-items.ensures.rdr in
    let left = c.into_byte_records-row-items.ensures.left in
    rw (start, rdr, c.new-rows.ensures.items) (
      rw (e) at fr.trim ∙ c.new.ensures.trim,
      inr (inr (rw e at fr.has_headers, fr.headers)),
      left,
      rw e at fr.config ∙ c.new.ensures.config,
      strip_bom c.args.bytes.now,
      fr.source,
      (sym fr.state, refl),
      tt,
      fr.expected,
      rw e at fr.flexible ∙ c.new.ensures.flexible,
    )

pub keep-requires : goal.keep-requires
keep-requires c =
    let inv = c.loop-row.invariant in
    let all = rw (c.in-Some.is, c.in-Ok.is) at (c.next.ensures.steps inv.2 inv.0) in
    let s = all.0 inv.1 in
    let f = fields_of c.in-Ok.row in
    let m = rows-more (λ (s : Bor (List ℕ)). Some s.now) c.loop-row.row-iterator.rdr c.next.new.self.rdr f default_config st.StartRecord (strip_bom c.args.bytes.now) inv.4 (map fields_of c.loop-row.rows.items) inv.3 inv.5 inv.6 s.0 in
    row_text c.args.bytes.now (map fields_of c.loop-row.rows.items) f c.next.new.self.rdr.state m.0 c.requires m.2

pub loop-row-preserved : goal.loop-row-preserved
loop-row-preserved c =
    let inv = c.loop-row.invariant in
    let all = rw (c.in-Some.is, c.in-Ok.is) at (c.next.ensures.steps inv.2 inv.0) in
    let s = all.0 inv.1 in
    let items = c.in_ok-keep-in-Ok.ensures.kept in
    let f = fields_of c.in-Ok.row in
    let m = rows-more (λ (s : Bor (List ℕ)). Some s.now) c.loop-row.row-iterator.rdr c.next.new.self.rdr f default_config st.StartRecord (strip_bom c.args.bytes.now) inv.4 (map fields_of c.loop-row.rows.items) inv.3 inv.5 inv.6 s.0 in
    let both = s.0.5 refl inv.9 in
    let first = λ (none : map fields_of c.loop-row.rows.items ≡ []). c.in_ok-keep-in-Ok.ensures.header (map_nil c.loop-row.rows.items none) in
    let x = expects_more c.args.names.now (map fields_of c.loop-row.rows.items) f c.loop-row.row-iterator.rdr.expected c.next.new.self.rdr.expected inv.7 first inv.8 both.0 both.1 in
    rw (items, map-append fields_of c.loop-row.rows.items (c.in-Ok.row ∷ [])) (s.0.3 ∙ inv.0, inl s.1, s.2, s.0.2 ∙ inv.3, m.0, m.1, m.2, x.0, x.1, all.3 ∙ inv.9)

pub returns-in_err-keep-in-Ok-clause-fault : goal.returns-in_err-keep-in-Ok-clause-fault
returns-in_err-keep-in-Ok-clause-fault c =
    let inv = c.loop-row.invariant in
    let s = rw (c.in-Some.is, c.in-Ok.is) at ((c.next.ensures.steps inv.2 inv.0).0 inv.1) in
    let why = refused_row (λ (s : Bor (List ℕ)). Some s.now) c.loop-row.row-iterator.rdr c.next.new.self.rdr c.args.names.now c.args.bytes.now (map fields_of c.loop-row.rows.items) (fields_of c.in-Ok.row) inv.4 c.in_err-keep-in-Ok.field-0.0
    inv.3 inv.5 inv.6 inv.7 s.0.0 c.in_err-keep-in-Ok.ensures.fault in
    told c.from_residual.result c.in_err-keep-in-Ok.field-0.0 (RowsFaults c.args.names.now c.args.bytes.now) c.from_residual.ensures.1 why

pub returns-in-Err-clause-fault : goal.returns-in-Err-clause-fault
returns-in-Err-clause-fault c =
    let inv = c.loop-row.invariant in
    let s = rw (c.in-Some.is, c.in-Err.is) at ((c.next.ensures.steps inv.2 inv.0).0 inv.1) in
    refused_by (λ (s : Bor (List ℕ)). Some s.now) c.loop-row.row-iterator.rdr c.next.new.self.rdr c.args.names.now c.args.bytes.now (map fields_of c.loop-row.rows.items) inv.4 c.in-Err.error.kind c.refusal.result c.len.result
    inv.3 inv.5 inv.6 inv.7 inv.8 (simp length-map (search rules)) s c.refusal.ensures
