-- The marks of the format are ASCII, so fields that are read from UTF-8 are UTF-8.
use Rattle.std.proofs.Common.{◌≡◌, ◌⊎◌, ℕ, ◌+◌, ◌/◌, ◌<◌, ◌≤◌, Bool, true, false, ◌&&◌, List, [], ◌∷◌, ◌++◌, Option, refl, sym, ap, ◌∙◌, subst, append_assoc, inl, inr, arith, ne_eqb, ◌==◌}
use Rattle.std.specs.Prelude.{All, IfSome}
use Rattle.std.specs.Str.{IsUtf8}
use Rattle.std.proofs.Common.{length, length-append}
use Rattle.std.proofs.Math.Seq.{get_or-append_seam}
use Rattle.std.proofs.lemmas.Bool.{cases_Bool, eqb-true, cases_lt, lt-ltb, le-ltb, cond-true, cond-false}
use Rattle.std.proofs.lemmas.List.Elements.{All-nil, All-cons, All-push}
use Rattle.std.proofs.lemmas.Str.{IsUtf8-nil, IsUtf8-append, IsUtf8-encode, encode_ascii, encode_same}
use lib.Utf8.{scalar, scalars, encode, encodes, next}
use Rattle.csv.specs.Machine.{Read, Runs, next_record, step, is_end, fields_after, field_after}
use Rattle.csv.specs.Reading.{Reached, default_config, is_bom, strip_bom}
use Rattle.csv.specs.declared.parser.State.{State}
use Rattle.csv.specs.declared.parser.State.TheVariants as st
use Rattle.csv.specs.declared.parser.Action.{Action}
use Rattle.csv.specs.declared.parser.Action.TheVariants as act
use Rattle.csv.proofs.ReadFacts.{run-copies}
use Rattle.hm_csv_records.specs.Rows.{Fields, byte_order_mark, BeginsWithMark}

-- ---- characters that aren't ASCII

-- each byte is above ASCII
abbrev pub High : List ℕ → Type 0
High [] = Unit {0}
High (b ∷ rest) = (128 ≤ b) × High rest

high_next : (bits : ℕ) → 128 ≤ next bits
high_next bits = omega arith

high_2 : (c : ℕ) → High ((192 + c / 64) ∷ next c ∷ [])
high_2 c = (omega arith, (high_next c, tt))

high_3 : (c : ℕ) → High ((224 + c / 4096) ∷ next (c / 64) ∷ next c ∷ [])
high_3 c = (omega arith, (high_next (c / 64), (high_next c, tt)))

high_4 : (c : ℕ) → High ((240 + c / 262144) ∷ next (c / 4096) ∷ next (c / 64) ∷ next c ∷ [])
high_4 c = (omega arith, (high_next (c / 4096), (high_next (c / 64), (high_next c, tt))))

pub high_encode : (c : ℕ) → 128 ≤ c → High (encode c)
unfolding encode
high_encode c l = subst High (sym (cond-false _ _ _ (le-ltb c 128 l))) (elim (cases_lt c 2048) [
  | inl h ↦ subst High (sym (cond-true _ _ _ (lt-ltb c 2048 h))) (high_2 c)
  | inr g ↦ subst High (sym (cond-false _ _ _ (le-ltb c 2048 g))) (elim (cases_lt c 65536) [
    | inl h ↦ subst High (sym (cond-true _ _ _ (lt-ltb c 65536 h))) (high_3 c)
    | inr k ↦ subst High (sym (cond-false _ _ _ (le-ltb c 65536 k))) (high_4 c)
  ])
])

pub other : (b n : ℕ) → 128 ≤ b → n < 128 → (b == n) ≡ false
other b n l h = ne_eqb b n (λ e. omega arith)

-- a byte above ASCII only joins a field
joins_field : (s : State) (b : ℕ) → 128 ≤ b → (step default_config s b ≡ (st.InField, act.Copy)) ⊎ (step default_config s b ≡ (st.InQuoted, act.Copy)) ⊎ (s ≡ st.InComment)
joins_field st.StartRecord b l = inl (rw (other b 44 l (omega arith), other b 34 l (omega arith), other b 13 l (omega arith), other b 10 l (omega arith)) refl)
joins_field st.StartField b l = inl (rw (other b 44 l (omega arith), other b 34 l (omega arith), other b 13 l (omega arith), other b 10 l (omega arith)) refl)
joins_field st.InField b l = inl (rw (other b 44 l (omega arith), other b 13 l (omega arith), other b 10 l (omega arith)) refl)
joins_field st.InQuoted b l = inr (inl (rw (other b 34 l (omega arith)) refl))
joins_field st.AfterQuote b l = inl (rw (other b 44 l (omega arith), other b 34 l (omega arith), other b 13 l (omega arith), other b 10 l (omega arith)) refl)
joins_field st.InEscape b l = inr (inl refl)
joins_field st.InComment b l = inr (inr refl)
joins_field st.AfterCr b l = inl (rw (other b 44 l (omega arith), other b 34 l (omega arith), other b 13 l (omega arith), other b 10 l (omega arith)) refl)

runs_field : (x : List ℕ) → High x → Runs default_config st.InField x
unfolding Runs
runs_field [] h = tt
runs_field (b ∷ rest) h = (rw (other b 44 h.0 (omega arith), other b 13 h.0 (omega arith), other b 10 h.0 (omega arith)) refl, runs_field rest h.1)

runs_quoted : (x : List ℕ) → High x → Runs default_config st.InQuoted x
unfolding Runs
runs_quoted [] h = tt
runs_quoted (b ∷ rest) h = (rw (other b 34 h.0 (omega arith)) refl, runs_quoted rest h.1)

-- the comment that the reader may stand in
skips : (fields : Fields) (field x tail : List ℕ) → High x → next_record default_config st.InComment fields field (x ++ tail) ≡ next_record default_config st.InComment fields field tail
unfolding next_record
skips fields field [] tail h = refl
skips fields field (b ∷ rest) tail h = rw (other b 10 h.0 (omega arith)) (skips fields field rest tail h.1)

-- bytes above ASCII: as a whole they join the field at hand, or are passed over
joined : (s : State) (fields : Fields) (field x tail : List ℕ) → High x
    → (t : State) × (g : List ℕ) × (next_record default_config s fields field (x ++ tail) ≡ next_record default_config t fields g tail) × ((g ≡ field ++ x) ⊎ (g ≡ field))
unfolding next_record
joined s fields field [] tail h = (s, field, refl, inr refl)
joined s fields field (b ∷ rest) tail h = elim (joins_field s b h.0) [
  | inl e ↦ (st.InField, (field ++ b ∷ []) ++ rest, (rw e (run-copies default_config st.InField fields (field ++ b ∷ []) rest tail (runs_field rest h.1))), inl (append_assoc field (b ∷ []) rest))
  | inr more ↦ elim more [
    | inl e ↦ (st.InQuoted, (field ++ b ∷ []) ++ rest, (rw e (run-copies default_config st.InQuoted fields (field ++ b ∷ []) rest tail (runs_quoted rest h.1))), inl (append_assoc field (b ∷ []) rest))
    | inr comment ↦ (st.InComment, field, (rw comment (skips fields field (b ∷ rest) tail h)), inr refl)
  ]
]

-- ---- the fields of a record, and what stands behind it

pub record IsText (p : Read) : Type 0 where
  pub fields : All IsUtf8 p.0
  pub rest : IsUtf8 p.2

abbrev Reads_text : Option Read → Type 0
Reads_text o = IfSome o IsText

ascii_field : (field : List ℕ) (c : ℕ) → c < 128 → scalar c ≡ true → IsUtf8 field → IsUtf8 (field ++ c ∷ [])
ascii_field field c l is text = IsUtf8-append field (c ∷ []) text (subst IsUtf8 (encode_ascii c l) (IsUtf8-encode c is))

-- the fields and the field at hand stay text where an action keeps a character
kept_fields : (a : Action) (fields : Fields) (field : List ℕ) → All IsUtf8 fields → IsUtf8 field → All IsUtf8 (fields_after a fields field)
kept_fields act.EndField fields field all text = All-push IsUtf8 fields field all text
kept_fields act.Skip fields field all text = all
kept_fields act.Copy fields field all text = all
kept_fields act.EndRecord fields field all text = All-push IsUtf8 fields field all text

kept_field : (a : Action) (c : ℕ) (field : List ℕ) → c < 128 → scalar c ≡ true → IsUtf8 field → IsUtf8 (field_after a c field)
kept_field act.Copy c field l is text = ascii_field field c l is text
kept_field act.EndField c field l is text = IsUtf8-nil
kept_field act.Skip c field l is text = text
kept_field act.EndRecord c field l is text = IsUtf8-nil

at_end : (s : State) (fields : Fields) (field : List ℕ) → All IsUtf8 fields → IsUtf8 field → Reads_text (next_record default_config s fields field [])
unfolding next_record
at_end st.StartRecord fields field all text = tt
at_end st.AfterCr fields field all text = tt
at_end st.StartField fields field all text = record { fields = All-push IsUtf8 fields field all text; rest = IsUtf8-nil }
at_end st.InField fields field all text = record { fields = All-push IsUtf8 fields field all text; rest = IsUtf8-nil }
at_end st.InQuoted fields field all text = record { fields = All-push IsUtf8 fields field all text; rest = IsUtf8-nil }
at_end st.AfterQuote fields field all text = record { fields = All-push IsUtf8 fields field all text; rest = IsUtf8-nil }
at_end st.InEscape fields field all text = record { fields = All-push IsUtf8 fields field all text; rest = IsUtf8-nil }
at_end st.InComment fields field all text = record { fields = All-push IsUtf8 fields field all text; rest = IsUtf8-nil }

pub both : (a b : Bool) → (a && b) ≡ true → (a ≡ true) × (b ≡ true)
both true b e = (refl, e)
both false b e = let bad : ⊥ = cc in absurd bad

text_from : (cs : List ℕ) → scalars cs ≡ true → (s : State) (fields : Fields) (field : List ℕ) → All IsUtf8 fields → IsUtf8 field → Reads_text (next_record default_config s fields field (encodes cs))
unfolding next_record
text_from [] is s fields field all text = at_end s fields field all text
text_from (c ∷ cs) is s fields field all text =
    let parts = both (scalar c) (scalars cs) is in
    elim (cases_lt c 128) [
      | inl low ↦ subst (λ (x : List ℕ). Reads_text (next_record default_config s fields field (x ++ encodes cs))) (sym (encode_ascii c low)) (elim (cases_Bool (is_end (step default_config s c).1)) [
        | inl end ↦ rw end (record { fields = kept_fields (step default_config s c).1 fields field all text; rest = (cs, (parts.1, refl)) })
        | inr on ↦ rw on (text_from cs parts.1 (step default_config s c).0 (fields_after (step default_config s c).1 fields field) (field_after (step default_config s c).1 c field)
            (kept_fields (step default_config s c).1 fields field all text) (kept_field (step default_config s c).1 c field low parts.0 text))
      ])
      | inr high ↦
          let j = joined s fields field (encode c) (encodes cs) (high_encode c high) in
          let g : IsUtf8 j.1 = elim j.3 [
            | inl e ↦ subst IsUtf8 (sym e) (IsUtf8-append field (encode c) text (IsUtf8-encode c parts.0))
            | inr e ↦ subst IsUtf8 (sym e) text
          ] in
          subst Reads_text (sym j.2) (text_from cs parts.1 j.0 fields j.1 all g)
    ]

reads_text : (s : State) (xs : List ℕ) → IsUtf8 xs → Reads_text (next_record default_config s [] [] xs)
reads_text s xs u = subst (λ (x : List ℕ). Reads_text (next_record default_config s [] [] x)) u.1.1 (text_from u.0 u.1.0 s [] [] (All-nil IsUtf8) IsUtf8-nil)

-- the records of a text have texts as fields
pub reached_text : (s : State) (xs : List ℕ) (rows : List Fields) (s2 : State) (ys : List ℕ) → IsUtf8 xs → Reached default_config s xs rows s2 ys → All (All IsUtf8) rows
unfolding Reached
reached_text s xs [] s2 ys u h = All-nil (All IsUtf8)
reached_text s xs (row ∷ rows) s2 ys u h =
    let t : IsText h.0 = subst Reads_text h.1 (reads_text s xs u) in
    All-cons (All IsUtf8) row rows (subst (All IsUtf8) (sym h.2) t.fields) (reached_text h.0.1 h.0.2 rows s2 ys t.rest h.3)

-- ---- the byte-order mark

pub mark_encodes : encode 0xFEFF ≡ byte_order_mark
unfolding encode
mark_encodes = refl

-- what stands behind a byte-order mark is text
behind_mark : (rest : List ℕ) → IsUtf8 (byte_order_mark ++ rest) → IsUtf8 rest
behind_mark rest ([], (is, e)) = let bad : ⊥ = cc in absurd bad
behind_mark rest (c ∷ cs, (is, e)) =
    let front : encode c ++ encodes cs ≡ encode 0xFEFF ++ rest = e ∙ ap (λ l. l ++ rest) (sym mark_encodes) in
    (cs, ((both (scalar c) (scalars cs) is).1, (encode_same c 0xFEFF (encodes cs) rest front).1))

is_mark : (a b c : ℕ) (rest : List ℕ) → is_bom a b c ≡ true → a ∷ b ∷ c ∷ rest ≡ byte_order_mark ++ rest
is_mark a b c rest e =
    let outer = both ((a == 0xEF) && (b == 0xBB)) (c == 0xBF) e in
    let inner = both (a == 0xEF) (b == 0xBB) outer.0 in
    let first = eqb-true a 0xEF inner.0 in
    let second = eqb-true b 0xBB inner.1 in
    let third = eqb-true c 0xBF outer.1 in
    (λ i. first i ∷ second i ∷ third i ∷ rest)

pub stripped_text : (bytes : List ℕ) → IsUtf8 bytes → IsUtf8 (strip_bom bytes)
unfolding strip_bom
stripped_text [] u = u
stripped_text (a ∷ []) u = u
stripped_text (a ∷ b ∷ []) u = u
stripped_text (a ∷ b ∷ c ∷ rest) u = elim (cases_Bool (is_bom a b c)) [
  | inl e ↦ rw e (behind_mark rest (subst IsUtf8 (is_mark a b c rest e) u))
  | inr e ↦ rw e u
]

pub strip_unmarked : (bytes : List ℕ) → ¬ (BeginsWithMark bytes) → strip_bom bytes ≡ bytes
unfolding strip_bom
strip_unmarked [] plain = refl
strip_unmarked (a ∷ []) plain = refl
strip_unmarked (a ∷ b ∷ []) plain = refl
strip_unmarked (a ∷ b ∷ c ∷ rest) plain = elim (cases_Bool (is_bom a b c)) [
  | inl e ↦ absurd (plain (rest, is_mark a b c rest e))
  | inr e ↦ rw e refl
]

pub strip_marked : (rest : List ℕ) → strip_bom (byte_order_mark ++ rest) ≡ rest
unfolding strip_bom
strip_marked rest = refl

-- the fields of a record that is read of a text are texts
pub row_text : (bytes : List ℕ) (rows : List Fields) (row : Fields) (s2 : State) (ys : List ℕ) → IsUtf8 bytes
    → Reached default_config st.StartRecord (strip_bom bytes) (rows ++ row ∷ []) s2 ys → All IsUtf8 row
row_text bytes rows row s2 ys text reached =
    let all = reached_text st.StartRecord (strip_bom bytes) (rows ++ row ∷ []) s2 ys (stripped_text bytes text) reached in
    let n = length-append rows (row ∷ []) in
    subst (All IsUtf8) (get_or-append_seam rows row [] row) (all (length rows) row (omega arith))
