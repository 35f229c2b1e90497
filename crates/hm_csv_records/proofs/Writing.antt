-- What a writer has written.
use Rattle.std.proofs.Common.{◌≡◌, ◌≢◌, ℕ, Bool, true, false, List, [], ◌∷◌, ◌++◌, Option, Some, None, refl, sym, ap, ◌∙◌, subst, append_assoc, append-nil}
use Rattle.std.specs.Prelude.{Vec, if◌then◌else◌}
use Rattle.std.specs.List.{flat_map}
use Rattle.std.proofs.lemmas.List.Concat.{flat_map-append}
use Rattle.std.specs.Io.KnownBytes.{Appends}
use Rattle.std.specs.declared.alloc.Global.{Global}
use Rattle.csv.specs.declared.writer.WriterBuilder.{WriterBuilder}
use Rattle.csv.specs.declared.writer.Writer.{Writer}
use Rattle.csv.specs.declared.writer.QuoteStyle.TheVariants as style
use Rattle.csv.specs.Writing.{default_writer, escaped, field_text, fields_text, is_blank, row_text, fields_written, has_written, text_written, with_flexible, writer_setup}
use Rattle.hm_csv_records.specs.Rows.{Fields, byte_order_mark}
use Rattle.hm_csv_records.specs.Written.{written, HasWritten}
use Rattle.hm_csv_records.specs.declared.writer.RecordsWriter.{RecordsWriter}

-- a writer that lets records differ in length
abbrev pub lenient : WriterBuilder
lenient = with_flexible default_writer true

-- it writes each record as the default writer does
escaped_same : (bytes : List ℕ) → escaped lenient bytes ≡ escaped default_writer bytes
unfolding escaped
escaped_same [] = refl
escaped_same (b ∷ rest) = rw (escaped_same rest) refl

field_same : (field : List ℕ) → field_text lenient field ≡ field_text default_writer field
field_same field = rw (escaped_same field) refl

fields_same : (fields : Fields) → fields_text lenient fields ≡ fields_text default_writer fields
unfolding fields_text
fields_same [] = refl
fields_same (field ∷ fields) = rw (field_same field, fields_same fields) refl

row_same : (row : Fields) → row_text lenient row ≡ row_text default_writer row
unfolding is_blank
row_same [] = refl
row_same (field ∷ []) = rw (field_same field, fields_same []) refl
row_same (field ∷ next ∷ rest) = rw (field_same field, fields_same (next ∷ rest)) refl

known : (a b : Option (List ℕ)) (x bs : List ℕ) → a ≡ Some x → Appends a b bs → b ≡ Some (x ++ bs)
known None b x bs e h = let bad : ⊥ = cc in absurd bad
known (Some y) None x bs e h = absurd h
known (Some y) (Some z) x bs e h = let same : y ≡ x = cc in ap Some (h ∙ ap (λ l. l ++ bs) same)

written_more : (mark : Bool) (rows : List Fields) (row : Fields) → written mark (rows ++ row ∷ []) ≡ written mark rows ++ row_text default_writer row
written_more mark rows row =
    let front = if mark then byte_order_mark else [] in
    ap (λ l. front ++ l) (flat_map-append (row_text default_writer) rows (row ∷ []) ∙ ap (λ l. flat_map (row_text default_writer) rows ++ l) (append-nil (row_text default_writer row)))
    ∙ sym (append_assoc front (flat_map (row_text default_writer) rows) (row_text default_writer row))

-- the writer of which a record's call is made
abbrev Under : Type 0
Under = Writer (Vec ℕ Global)

abbrev shows : Under → Option (List ℕ)
shows w = text_written (λ (v : Vec ℕ Global). Some v.items) w

plain_style : (w : Under) → writer_setup w ≡ lenient → (writer_setup w).style ≢ style.NonNumeric
plain_style w e = rw e (λ s. cc s)

-- one record more
pub appended : (a b : RecordsWriter) (row : Fields)
    → (fields_written a.writer ≡ 0 → has_written a.writer ≡ false → (writer_setup a.writer).style ≢ style.NonNumeric → Appends (shows a.writer) (shows b.writer) (row_text (writer_setup a.writer) row))
    → fields_written b.writer ≡ 0 → has_written b.writer ≡ false → writer_setup b.writer ≡ writer_setup a.writer
    → (mark : Bool) (rows : List Fields) → HasWritten a mark rows → HasWritten b mark (rows ++ row ∷ [])
appended a b row text fields shown setup mark rows has =
    let more : Appends (shows a.writer) (shows b.writer) (row_text lenient row) =
    subst (λ (cfg : WriterBuilder). Appends (shows a.writer) (shows b.writer) (row_text cfg row)) has.setup (text has.fields has.shows (plain_style a.writer has.setup)) in
    record {
      setup = setup ∙ has.setup;
      fields = fields;
      shows = shown;
      text = known (shows a.writer) (shows b.writer) (written mark rows) (row_text lenient row) has.text more
          ∙ ap Some (ap (λ l. written mark rows ++ l) (row_same row) ∙ sym (written_more mark rows row));
    }
