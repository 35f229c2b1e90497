-- All bytes are read as a header and records, or refused for a fault.
use Rattle.std.proofs.Common.{◌≡◌, ◌≢◌, ℕ, zero, suc, ◌+◌, ◌<◌, ◌⊎◌, inl, inr, Bool, true, false, List, [], ◌∷◌, ◌++◌, length, Option, Some, None, Result, Ok, Err, refl, sym, ap, ◌∙◌, arith}
use Rattle.std.specs.Prelude.{◌↔◌, if◌then◌else◌, IsTrue, IsUtf8}
use Rattle.std.specs.Str.Lossy.{utf8_valid_len}
use Rattle.csv.specs.Machine.{Read, next_record, step, is_end, ends_at_end, fields_after, field_after}
use Rattle.csv.specs.Reading.{AreRecords, Reached, default_config, strip_bom}
use Rattle.csv.specs.declared.parser.State.{State}
use Rattle.csv.specs.declared.parser.State.TheVariants as st
use Rattle.hm_existence.specs.Existence.{IsThere}
use Rattle.hm_existence.proofs.Existence.{from_one, by_cases, all_or_first}
use Rattle.hm_tree.specs.Names.{Name}
use Rattle.hm_csv_records.specs.Rows.{Fields, BeginsWithMark, IsHeader, AreGood}
use Rattle.hm_csv_records.specs.Reads.{Sheet, AreAll, AreFirst, ReadsRecords}
use Rattle.hm_csv_records.specs.declared.fault.RecordsFault.{RecordsFault}
use Rattle.hm_csv_records.specs.declared.fault.RecordsFault.TheVariants.{NotUtf8, BadItem}

abbrev next : State → List ℕ → Option Read
next s xs = next_record default_config s [] [] xs

-- ---- each record takes some of the bytes

ended : (p : Read) (row : Fields) → Some (row, st.StartRecord, []) ≡ Some p → (p.1 ≡ st.StartRecord) × (p.2 ≡ [])
ended p row e =
    let same : ◌≡◌ {A = Read} (row, st.StartRecord, []) p = cc in
    (ap (λ (r : Read). r.1) (sym same), ap (λ (r : Read). r.2) (sym same))

at_end : (s : State) (fields : Fields) (field : List ℕ) (p : Read) → next_record default_config s fields field [] ≡ Some p
    → (p.1 ≡ st.StartRecord) × (p.2 ≡ [])
unfolding next_record
at_end s fields field p e = go (ends_at_end s) e
  where
    go : (b : Bool) → (if b then Some (fields ++ (field ∷ []), st.StartRecord, []) else None) ≡ Some p → (p.1 ≡ st.StartRecord) × (p.2 ≡ [])
    go true e = ended p (fields ++ (field ∷ [])) e
    go false e = let no : ⊥ = cc in absurd no

rest_is : (row : Fields) (s : State) (rest : List ℕ) (p : Read) → Some (row, s, rest) ≡ Some p → p.2 ≡ rest
rest_is row s rest p e = let same : ◌≡◌ {A = Read} (row, s, rest) p = cc in ap (λ (r : Read). r.2) (sym same)

left_less : (xs : List ℕ) (s : State) (fields : Fields) (field : List ℕ) (p : Read) → next_record default_config s fields field xs ≡ Some p
    → (length p.2 < length xs) ⊎ (xs ≡ [])
unfolding next_record
left_less [] s fields field p e = inr refl
left_less (c ∷ rest) s fields field p e =
    go (is_end (step default_config s c).1) e
    (left_less rest (step default_config s c).0 (fields_after (step default_config s c).1 fields field) (field_after (step default_config s c).1 c field) p)
  where
    further : (length p.2 < length rest) ⊎ (rest ≡ []) → (rest ≡ [] → p.2 ≡ []) → length p.2 < length (c ∷ rest)
    further (inl less) none = omega arith
    further (inr is) none = let n = ap length (none is) in omega arith

    at_last : next_record default_config (step default_config s c).0 (fields_after (step default_config s c).1 fields field)
        (field_after (step default_config s c).1 c field) rest ≡ Some p → rest ≡ [] → p.2 ≡ []
    at_last e is =
        (at_end (step default_config s c).0 (fields_after (step default_config s c).1 fields field) (field_after (step default_config s c).1 c field) p
        (ap (next_record default_config (step default_config s c).0 (fields_after (step default_config s c).1 fields field)
        (field_after (step default_config s c).1 c field)) (sym is) ∙ e)).1

    go : (b : Bool)
        → (if b then Some (fields_after (step default_config s c).1 fields field, (step default_config s c).0, rest)
        else next_record default_config (step default_config s c).0 (fields_after (step default_config s c).1 fields field)
        (field_after (step default_config s c).1 c field) rest) ≡ Some p
        → (next_record default_config (step default_config s c).0 (fields_after (step default_config s c).1 fields field)
        (field_after (step default_config s c).1 c field) rest ≡ Some p → (length p.2 < length rest) ⊎ (rest ≡ []))
        → (length p.2 < length (c ∷ rest)) ⊎ (c ∷ rest ≡ [])
    go true e more =
        let n = ap length (rest_is (fields_after (step default_config s c).1 fields field) (step default_config s c).0 rest p e) in inl (omega arith)
    go false e more = inl (further (more e) (at_last e))

-- ---- so all records are reached

abbrev All_of : State → List ℕ → Type 0
All_of s xs = (rows : List Fields) × AreRecords default_config s xs rows

none_left : (s : State) (xs : List ℕ) → next s xs ≡ None → All_of s xs
unfolding Reached
none_left s xs none = ([], (s, xs, (refl, refl), none))

one_more : (s : State) (xs : List ℕ) (p : Read) → next s xs ≡ Some p → All_of p.1 p.2 → All_of s xs
unfolding Reached
one_more s xs p e (rows, h) = (p.0 ∷ rows, (h.0, h.1, (p, e, refl, h.2), h.3))

nothing_next : next st.StartRecord [] ≡ None
unfolding next_record
nothing_next = refl

nothing_left : (s : State) (xs : List ℕ) → s ≡ st.StartRecord → xs ≡ [] → All_of s xs
nothing_left s xs is none = none_left s xs (ap (λ s. next s xs) is ∙ ap (next st.StartRecord) none ∙ nothing_next)

-- where they are of any fewer bytes
all_next : (n : ℕ) (s : State) (xs : List ℕ) → length xs < suc n → ((t : State) (ys : List ℕ) → length ys < n → All_of t ys) → All_of s xs
all_next n s xs le fewer = go (next s xs) refl
  where
    behind : (p : Read) → next s xs ≡ Some p → (length p.2 < length xs) ⊎ (xs ≡ []) → All_of p.1 p.2
    behind p e (inl less) = fewer p.1 p.2 (omega arith)
    behind p e (inr is) =
        let at = at_end s [] [] p (ap (next s) (sym is) ∙ e) in nothing_left p.1 p.2 at.0 at.1

    go : (o : Option Read) → next s xs ≡ o → All_of s xs
    go None e = none_left s xs e
    go (Some p) e = one_more s xs p e (behind p e (left_less xs s [] [] p e))

all_within : (n : ℕ) (s : State) (xs : List ℕ) → length xs < n → All_of s xs
all_within zero s xs le = absurd (omega arith)
all_within (suc n) s xs le = all_next n s xs le (all_within n)

all_there : (bytes : List ℕ) → (rows : List Fields) × AreAll bytes rows
all_there bytes = all_within (suc (length (strip_bom bytes))) st.StartRecord (strip_bom bytes) (omega arith)

-- ---- a first record that is bad

first_of : (rows : List Fields) (s s2 : State) (xs ys : List ℕ) (before : List Fields) (row : Fields) (after : List Fields)
    → rows ≡ before ++ row ∷ after → Reached default_config s xs rows s2 ys
    → (s3 : State) × (zs : List ℕ) × Reached default_config s xs (before ++ row ∷ []) s3 zs
unfolding Reached
first_of [] s s2 xs ys [] row after e h = let no : ⊥ = cc in absurd no
first_of [] s s2 xs ys (b ∷ before) row after e h = let no : ⊥ = cc in absurd no
first_of (r ∷ rows) s s2 xs ys [] row after e h =
    let same : row ≡ r = cc in (h.0.1, h.0.2, (h.0, h.1, same ∙ h.2, (refl, refl)))
first_of (r ∷ rows) s s2 xs ys (b ∷ before) row after e h =
    let same : b ≡ r = cc in
    let rest : rows ≡ before ++ row ∷ after = cc in
    let more = first_of rows h.0.1 s2 h.0.2 ys before row after rest h.3 in
    (more.0, more.1, (h.0, h.1, same ∙ h.2, more.2))

are_first : (bytes : List ℕ) (rows before : List Fields) (row : Fields) (after : List Fields) → AreAll bytes rows → rows ≡ before ++ row ∷ after
    → AreFirst bytes (before ++ row ∷ [])
are_first bytes rows before row after all e = first_of rows st.StartRecord all.0 (strip_bom bytes) all.1 before row after e all.2

-- ---- what bytes are read as

module _ (names : List Name) (bytes : List ℕ) where
  abbrev Answers : Result Sheet RecordsFault → Type 0
  Answers = ReadsRecords names bytes

  mark_there : (rows : List Fields) → IsUtf8 bytes → AreAll bytes rows → rows ≢ [] → AreGood names rows → IsThere Answers
  mark_there rows text all some good = by_cases Answers (BeginsWithMark bytes)
      (λ marked. sheet true (λ t. marked, λ m. refl))
      (λ plain. sheet false (λ t. let no : ⊥ = cc in absurd no, λ m. absurd (plain m)))
    where
      sheet : (mark : Bool) → IsTrue mark ↔ BeginsWithMark bytes → IsThere Answers
      sheet mark is = from_one Answers (Ok (record { mark = mark; rows = rows }))
          (record { text = text; marked = is; rows = record { all = all; some = some; good = good } })

  rows_there : (rows : List Fields) → IsUtf8 bytes → AreAll bytes rows → IsThere Answers
  rows_there [] text all = from_one Answers (Err (BadItem 1)) (text, inl (refl, all))
  rows_there (header ∷ others) text all =
      by_cases Answers (IsHeader names header)
      (λ is. all_or_first Answers (λ row. length row ≡ length header) others
      (λ long. mark_there (header ∷ others) text all (λ e. cc) (is, long))
      (λ before row after e long bad. from_one Answers (Err (BadItem (length before + 2))) (
        text,
        inr (record {
          before = header ∷ before;
          row = row;
          stand = are_first bytes (header ∷ others) (header ∷ before) row after all (ap (λ l. header ∷ l) e);
          good = (is, long);
          bad = bad;
          place = omega arith;
        }),
      )))
      (λ none. from_one Answers (Err (BadItem 1)) (
        text,
        inr (record {
          before = [];
          row = header;
          stand = are_first bytes (header ∷ others) [] header others all refl;
          good = tt;
          bad = none;
          place = omega arith;
        }),
      ))

  pub records_there : IsThere Answers
  records_there =
      by_cases Answers (IsUtf8 bytes) (λ text. let all = all_there bytes in rows_there all.0 text all.1)
      (λ broken. from_one Answers (Err (NotUtf8 (utf8_valid_len bytes))) (record { broken = broken; place = refl }))
