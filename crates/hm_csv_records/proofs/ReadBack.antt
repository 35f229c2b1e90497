-- What is written of texts is UTF-8, stands behind no byte-order mark that isn't asked for, and has its records.
use Rattle.std.proofs.Common.{◌≡◌, ◌≢◌, ℕ, ◌<◌, Bool, true, false, List, [], ◌∷◌, ◌++◌, Some, refl, sym, ap, ◌∙◌, subst, append_assoc, arith, inl, inr, ◌==◌}
use Rattle.std.specs.Prelude.{All, IsTrue, ◌↔◌, if◌then◌else◌}
use Rattle.std.specs.List.{flat_map, list_any}
use Rattle.std.specs.Str.{IsUtf8}
use Rattle.std.proofs.lemmas.Bool.{cases_Bool, cases_lt}
use Rattle.std.proofs.lemmas.List.Elements.{All-head, All-tail}
use Rattle.std.proofs.lemmas.Str.{IsUtf8-nil, IsUtf8-append, IsUtf8-encode, encode_ascii}
use lib.Utf8.{scalar, scalars, encode, encodes, low_scalar}
use Rattle.csv.specs.Machine.{next_record}
use Rattle.csv.specs.Reading.{AreRecords, Reached, default_config, strip_bom}
use Rattle.csv.specs.Writing.{default_writer, escaped, field_text, fields_text, is_blank, needs_byte, read_back, row_text}
use Rattle.csv.specs.declared.parser.State.TheVariants as st
use Rattle.csv.proofs.RoundTrip.{read-write}
use Rattle.hm_csv_records.specs.Rows.{Fields, byte_order_mark, BeginsWithMark, IsMarked}
use Rattle.hm_csv_records.specs.Written.{written}
use Rattle.hm_csv_records.proofs.Texts.{High, high_encode, other, both, mark_encodes, strip_marked, strip_unmarked}

-- ---- UTF-8

ascii : (c : ℕ) → c < 128 → IsUtf8 (c ∷ [])
ascii c l = subst IsUtf8 (encode_ascii c l) (IsUtf8-encode c (low_scalar c (omega arith)))

escaped_high : (x tail : List ℕ) → High x → escaped default_writer (x ++ tail) ≡ x ++ escaped default_writer tail
unfolding escaped
escaped_high [] tail h = refl
escaped_high (b ∷ rest) tail h = rw (other b 34 h.0 (omega arith)) (ap (λ l. b ∷ l) (escaped_high rest tail h.1))

escaped_text : (cs : List ℕ) → scalars cs ≡ true → IsUtf8 (escaped default_writer (encodes cs))
unfolding escaped
escaped_text [] is = IsUtf8-nil
escaped_text (c ∷ cs) is =
    let parts = both (scalar c) (scalars cs) is in
    let rest = escaped_text cs parts.1 in
    elim (cases_lt c 128) [
      | inl low ↦ subst (λ (x : List ℕ). IsUtf8 (escaped default_writer (x ++ encodes cs))) (sym (encode_ascii c low)) (elim (cases_Bool (c == 34)) [
        | inl e ↦ rw e (IsUtf8-append (34 ∷ []) (c ∷ escaped default_writer (encodes cs)) (ascii 34 (omega arith)) (IsUtf8-append (c ∷ []) (escaped default_writer (encodes cs)) (ascii c low) rest))
        | inr e ↦ rw e (IsUtf8-append (c ∷ []) (escaped default_writer (encodes cs)) (ascii c low) rest)
      ])
      | inr high ↦ subst IsUtf8 (sym (escaped_high (encode c) (encodes cs) (high_encode c high))) (IsUtf8-append (encode c) (escaped default_writer (encodes cs)) (IsUtf8-encode c parts.0) rest)
    ]

escaped_utf8 : (field : List ℕ) → IsUtf8 field → IsUtf8 (escaped default_writer field)
escaped_utf8 field u = subst (λ (x : List ℕ). IsUtf8 (escaped default_writer x)) u.1.1 (escaped_text u.0 u.1.0)

quote_utf8 : IsUtf8 (34 ∷ [])
quote_utf8 = ascii 34 (omega arith)

field_utf8 : (field : List ℕ) → IsUtf8 field → IsUtf8 (field_text default_writer field)
field_utf8 field u = elim (cases_Bool (list_any (needs_byte default_writer) field)) [
  | inl e ↦ rw e (IsUtf8-append (34 ∷ []) (escaped default_writer field ++ 34 ∷ []) quote_utf8 (IsUtf8-append (escaped default_writer field) (34 ∷ []) (escaped_utf8 field u) quote_utf8))
  | inr e ↦ rw e u
]

fields_utf8 : (fields : Fields) → All IsUtf8 fields → IsUtf8 (fields_text default_writer fields)
unfolding fields_text
fields_utf8 [] all = IsUtf8-nil
fields_utf8 (field ∷ fields) all =
    IsUtf8-append (44 ∷ []) (field_text default_writer field ++ fields_text default_writer fields) (ascii 44 (omega arith))
    (IsUtf8-append (field_text default_writer field) (fields_text default_writer fields) (field_utf8 field (All-head IsUtf8 field fields all)) (fields_utf8 fields (All-tail IsUtf8 field fields all)))

-- what ends a record
abbrev end_of : Bool → List ℕ
end_of blank = (if blank then 34 ∷ 34 ∷ [] else []) ++ 10 ∷ []

end_utf8 : (blank : Bool) → IsUtf8 (end_of blank)
end_utf8 true = IsUtf8-append (34 ∷ []) (34 ∷ 10 ∷ []) quote_utf8 (IsUtf8-append (34 ∷ []) (10 ∷ []) quote_utf8 (ascii 10 (omega arith)))
end_utf8 false = ascii 10 (omega arith)

row_utf8 : (row : Fields) → All IsUtf8 row → IsUtf8 (row_text default_writer row)
row_utf8 [] all = end_utf8 (is_blank default_writer [])
row_utf8 (field ∷ fields) all =
    IsUtf8-append (field_text default_writer field ++ fields_text default_writer fields) (end_of (is_blank default_writer (field ∷ fields)))
    (IsUtf8-append (field_text default_writer field) (fields_text default_writer fields) (field_utf8 field (All-head IsUtf8 field fields all)) (fields_utf8 fields (All-tail IsUtf8 field fields all)))
    (end_utf8 (is_blank default_writer (field ∷ fields)))

rows_utf8 : (rows : List Fields) → All (All IsUtf8) rows → IsUtf8 (flat_map (row_text default_writer) rows)
rows_utf8 [] all = IsUtf8-nil
rows_utf8 (row ∷ rows) all =
    IsUtf8-append (row_text default_writer row) (flat_map (row_text default_writer) rows) (row_utf8 row (All-head (All IsUtf8) row rows all)) (rows_utf8 rows (All-tail (All IsUtf8) row rows all))

mark_utf8 : IsUtf8 byte_order_mark
mark_utf8 = subst IsUtf8 mark_encodes (IsUtf8-encode 0xFEFF refl)

pub written_utf8 : (mark : Bool) (rows : List Fields) → All (All IsUtf8) rows → IsUtf8 (written mark rows)
written_utf8 true rows all = IsUtf8-append byte_order_mark (flat_map (row_text default_writer) rows) mark_utf8 (rows_utf8 rows all)
written_utf8 false rows all = rows_utf8 rows all

-- ---- no mark that isn't asked for

-- what stands behind a header's first field begins with an ASCII byte
after_field : (fields : Fields) (blank : Bool) → (d : ℕ) × (rest : List ℕ) × (fields_text default_writer fields ++ end_of blank ≡ d ∷ rest) × (d < 128)
unfolding fields_text
after_field [] true = (34, 34 ∷ 10 ∷ [], refl, omega arith)
after_field [] false = (10, [], refl, omega arith)
after_field (field ∷ fields) blank = (44, (field_text default_writer field ++ fields_text default_writer fields) ++ end_of blank, refl, omega arith)

mark_front : (field : List ℕ) (d : ℕ) (tail : List ℕ) → d < 128 → BeginsWithMark (field ++ d ∷ tail) → BeginsWithMark field
mark_front [] d tail l m = let e = m.1 in let same : d ≡ 239 = cc in absurd (omega arith)
mark_front (a ∷ []) d tail l m = let e = m.1 in let same : d ≡ 187 = cc in absurd (omega arith)
mark_front (a ∷ b ∷ []) d tail l m = let e = m.1 in let same : d ≡ 191 = cc in absurd (omega arith)
mark_front (a ∷ b ∷ c ∷ rest) d tail l m =
    let e = m.1 in
    let first : a ≡ 239 = cc in
    let second : b ≡ 187 = cc in
    let third : c ≡ 191 = cc in
    (rest, λ i. first i ∷ second i ∷ third i ∷ rest)

field_unmarked : (field : List ℕ) (d : ℕ) (tail : List ℕ) → d < 128 → ¬ (BeginsWithMark field) → ¬ (BeginsWithMark (field_text default_writer field ++ d ∷ tail))
field_unmarked field d tail l plain = elim (cases_Bool (list_any (needs_byte default_writer) field)) [
  | inl e ↦ rw e (λ m. quoted (m.0) (escaped default_writer field ++ 34 ∷ []) m.1)
  | inr e ↦ rw e (λ m. plain (mark_front field d tail l m))
]
  where
    quoted : (rest x : List ℕ) → (34 ∷ x) ++ d ∷ tail ≡ byte_order_mark ++ rest → ⊥
    quoted rest x q = cc

rows_unmarked : (header : Fields) (others : List Fields) → header ≢ [] → ¬ (IsMarked header) → ¬ (BeginsWithMark (flat_map (row_text default_writer) (header ∷ others)))
rows_unmarked [] others some plain = absurd (some refl)
rows_unmarked (field ∷ fields) others some plain =
    let blank = is_blank default_writer (field ∷ fields) in
    let more = flat_map (row_text default_writer) others in
    let a = after_field fields blank in
    let text : row_text default_writer (field ∷ fields) ++ more ≡ field_text default_writer field ++ a.0 ∷ (a.1 ++ more) =
    append_assoc (field_text default_writer field ++ fields_text default_writer fields) (end_of blank) more
    ∙ append_assoc (field_text default_writer field) (fields_text default_writer fields) (end_of blank ++ more)
    ∙ ap (λ l. field_text default_writer field ++ l) (sym (append_assoc (fields_text default_writer fields) (end_of blank) more) ∙ ap (λ l. l ++ more) a.2) in
    λ m. field_unmarked field a.0 (a.1 ++ more) a.3 plain (subst BeginsWithMark text m)

pub stripped : (mark : Bool) (header : Fields) (others : List Fields) → header ≢ [] → ¬ (IsMarked header) → strip_bom (written mark (header ∷ others)) ≡ flat_map (row_text default_writer) (header ∷ others)
stripped true header others some plain = strip_marked (flat_map (row_text default_writer) (header ∷ others))
stripped false header others some plain = strip_unmarked (flat_map (row_text default_writer) (header ∷ others)) (rows_unmarked header others some plain)

pub marked : (mark : Bool) (header : Fields) (others : List Fields) → header ≢ [] → ¬ (IsMarked header) → IsTrue mark ↔ BeginsWithMark (written mark (header ∷ others))
marked true header others some plain = ((λ t. (flat_map (row_text default_writer) (header ∷ others), refl)), (λ m. refl))
marked false header others some plain = ((λ t. let bad : ⊥ = cc in absurd bad), (λ m. absurd (rows_unmarked header others some plain m)))

-- ---- the records

same_back : (row : Fields) → row ≢ [] → read_back row ≡ row
same_back [] some = absurd (some refl)
same_back (field ∷ fields) some = refl

pub back : (rows : List Fields) → All (λ row. row ≢ []) rows → AreRecords default_config st.StartRecord (flat_map (row_text default_writer) rows) rows
unfolding Reached next_record
back [] all = (st.StartRecord, [], (refl, refl), refl)
back (row ∷ rows) all =
    let tail = flat_map (row_text default_writer) rows in
    let rest = back rows (All-tail (λ (r : Fields). r ≢ []) row rows all) in
    let some = All-head (λ (r : Fields). r ≢ []) row rows all in
    let e = read-write row tail ∙ ap (λ (r : Fields). Some (r, st.StartRecord, tail)) (same_back row some) in
    (rest.0, rest.1, ((row, st.StartRecord, tail), e, refl, rest.2), rest.3)
