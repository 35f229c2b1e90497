-- One reading of all bytes, and what is written is read back.
pub use Rattle.hm_csv_records.proofs.SomeRecords.{records_there}
use Rattle.std.proofs.Common.{◌≡◌, ◌≢◌, ℕ, suc, Bool, true, false, arith, map, List, [], ◌∷◌, refl, sym, ap, subst, ◌∙◌}
use Rattle.std.specs.Prelude.{◌↔◌, IsTrue, IsUtf8, Result, Ok, Err, All, length}
use Rattle.std.proofs.lemmas.List.Elements.{All-nil, All-cons, All-head}
use Rattle.csv.specs.declared.parser.State.TheVariants as st
use Rattle.csv.specs.Reading.{AreRecords, default_config, strip_bom}
use Rattle.hm_tree.specs.Names.{Name}
use Rattle.hm_csv_records.specs.Rows.{Fields, AreGood}
use Rattle.csv.specs.Records.{Row, fields_of}
use Rattle.hm_csv_records.specs.Reads.{AreRows, Sheet, IsSheet, ReadsRecords}
use Rattle.hm_csv_records.specs.Written.{written}
use Rattle.hm_csv_records.specs.declared.fault.RecordsFault.{RecordsFault}
use Rattle.hm_csv_records.specs.declared.fault.RecordsFault.TheVariants.{NotUtf8, BadItem, Memory}
use Rattle.hm_csv_records.proofs.Once.{all_once, good_no_bad, bad_once}
use Rattle.hm_csv_records.proofs.Texts.{reached_text, stripped_text}
use Rattle.hm_csv_records.proofs.Filled.{reached_filled}
use Rattle.hm_csv_records.proofs.ReadBack.{written_utf8, stripped, marked, back}

same_answer : {P : Type 0} (a b : Bool) → IsTrue a ↔ P → IsTrue b ↔ P → a ≡ b
same_answer true true h k = refl
same_answer true false h k = let t = k.1 (h.0 refl) in let bad : ⊥ = cc in absurd bad
same_answer false true h k = let t = h.1 (k.0 refl) in let bad : ⊥ = cc in absurd bad
same_answer false false h k = refl

sheet_once : (names : List Name) (bytes : List ℕ) (a b : Sheet) → IsSheet names bytes a → IsSheet names bytes b → a ≡ b
sheet_once names bytes a b h k =
    let mark = same_answer a.mark b.mark h.marked k.marked in
    let rows = all_once st.StartRecord (strip_bom bytes) a.rows b.rows h.rows.all k.rows.all in
    (λ i. record { mark = mark i; rows = rows i })

-- two results that bytes are read as are equal
pub records_once : (names : List Name) (bytes : List ℕ) (r q : Result Sheet RecordsFault) → ReadsRecords names bytes r → ReadsRecords names bytes q → r ≡ q
records_once names bytes (Ok a) (Ok b) h k = ap Ok (sheet_once names bytes a b h k)
records_once names bytes (Ok a) (Err (NotUtf8 at)) h k = absurd (k.broken h.text)
records_once names bytes (Ok a) (Err (BadItem number)) h k = absurd (good_no_bad names bytes a.rows number h.rows.all h.rows.some h.rows.good k.1)
records_once names bytes (Ok a) (Err Memory) h k = absurd k
records_once names bytes (Err (NotUtf8 at)) (Ok b) h k = absurd (h.broken k.text)
records_once names bytes (Err (BadItem number)) (Ok b) h k = absurd (good_no_bad names bytes b.rows number k.rows.all k.rows.some k.rows.good h.1)
records_once names bytes (Err Memory) (Ok b) h k = absurd h
records_once names bytes (Err (NotUtf8 at)) (Err (NotUtf8 place)) h k = ap (λ n. Err (NotUtf8 n)) (h.place ∙ sym k.place)
records_once names bytes (Err (NotUtf8 at)) (Err (BadItem number)) h k = absurd (h.broken k.0)
records_once names bytes (Err (NotUtf8 at)) (Err Memory) h k = absurd k
records_once names bytes (Err (BadItem number)) (Err (NotUtf8 at)) h k = absurd (k.broken h.0)
records_once names bytes (Err (BadItem one)) (Err (BadItem other)) h k = ap (λ n. Err (BadItem n)) (bad_once names bytes one other h.1 k.1)
records_once names bytes (Err (BadItem number)) (Err Memory) h k = absurd k
records_once names bytes (Err Memory) (Err other) h k = absurd h

-- the fields of what is read are texts
pub records_text : (names : List Name) (bytes : List ℕ) (sheet : Sheet) → IsSheet names bytes sheet → All (All IsUtf8) sheet.rows
records_text names bytes sheet h =
    reached_text st.StartRecord (strip_bom bytes) sheet.rows h.rows.all.0 h.rows.all.1 (stripped_text bytes h.text) h.rows.all.2

nothing : (fields : Fields) → length fields ≡ 0 → fields ≡ []
nothing [] e = refl
nothing (field ∷ fields) e = let bad : ⊥ = cc in absurd bad

sheet_written : (names : List Name) (mark : Bool) (header : Fields) (others : List Fields) → All (λ row. row ≢ []) (header ∷ others) → AreGood names (header ∷ others) → All (All IsUtf8) (header ∷ others)
    → IsSheet names (written mark (header ∷ others)) (record { mark = mark; rows = header ∷ others })
sheet_written names mark header others filled good texts =
    let some = All-head (λ (row : Fields). row ≢ []) header others filled in
    record {
      text = written_utf8 mark (header ∷ others) texts;
      marked = marked mark header others some good.0.plain;
      rows = record {
        all = subst (λ (x : List ℕ). AreRecords default_config st.StartRecord x (header ∷ others)) (sym (stripped mark header others some good.0.plain)) (back (header ∷ others) filled);
        some = λ e. cc;
        good = good;
      };
    }

-- a header with a field that isn't marked, and others of its length, all of texts, are read from what is written of them
pub written_reads : (names : List Name) (mark : Bool) (header : Fields) (others : List Fields) → header ≢ [] → AreGood names (header ∷ others) → All (All IsUtf8) (header ∷ others)
    → ReadsRecords names (written mark (header ∷ others)) (Ok (record { mark = mark; rows = header ∷ others }))
written_reads names mark header others some good texts =
    let long : length header ≢ 0 = λ e. some (nothing header e) in
    let each : All (λ (row : Fields). row ≢ []) others = λ k d l e. long (sym (good.1 k d l) ∙ ap length e) in
    sheet_written names mark header others (All-cons (λ (row : Fields). row ≢ []) header others some each) good texts

-- each record that is read has a field
pub records_filled : (names : List Name) (bytes : List ℕ) (sheet : Sheet) → IsSheet names bytes sheet → All (λ row. row ≢ []) sheet.rows
records_filled names bytes sheet h = reached_filled st.StartRecord (strip_bom bytes) sheet.rows h.rows.all.0 h.rows.all.1 h.rows.all.2

again : (names : List Name) (mark : Bool) (rows : List Fields) → rows ≢ [] → All (λ row. row ≢ []) rows → AreGood names rows → All (All IsUtf8) rows
    → IsSheet names (written mark rows) (record { mark = mark; rows = rows })
again names mark [] some filled good texts = absurd (some refl)
again names mark (header ∷ others) some filled good texts = sheet_written names mark header others filled good texts

-- so what is read is read again from what is written of it
pub rewritten_reads : (names : List Name) (bytes : List ℕ) (sheet : Sheet) → IsSheet names bytes sheet → ReadsRecords names (written sheet.mark sheet.rows) (Ok sheet)
rewritten_reads names bytes sheet h =
    again names sheet.mark sheet.rows h.rows.some (records_filled names bytes sheet h) h.rows.good (records_text names bytes sheet h)

unmap : {X Y : Type 0} (P : X → Type 0) (f : Y → X) (ys : List Y) → All P (map f ys) → All (λ y. P (f y)) ys
unmap P f [] h = All-nil (λ y. P (f y))
unmap P f (y ∷ ys) h = All-cons (λ y. P (f y)) y ys (All-head P (f y) (map f ys) h) (unmap P f ys (λ k d lt. h (suc k) d (omega (arith, lt))))

-- the same of the rows themselves
pub rows_text : (names : List Name) (bytes : List ℕ) (rows : List Row) → IsUtf8 bytes → AreRows names bytes (map fields_of rows)
    → All (λ row. All IsUtf8 (fields_of row)) rows
rows_text names bytes rows text h =
    unmap (All IsUtf8) fields_of rows (reached_text st.StartRecord (strip_bom bytes) (map fields_of rows) h.all.0 h.all.1 (stripped_text bytes text) h.all.2)
