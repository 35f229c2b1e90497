-- The records that a reader has given, and why it gives no more.
use Rattle.std.proofs.Common.{◌≡◌, ◌≢◌, ℕ, ◌+◌, true, false, List, [], ◌∷◌, ◌++◌, length, map, Option, Some, None, refl, sym, ap, ◌∙◌, subst, inl, inr}
use Rattle.std.specs.Prelude.{IfSome, Result, Ok, Err, IfErr, IsErrAnd}
use Rattle.std.proofs.lemmas.List.Elements.{All-nil, All-push}
use Rattle.csv.specs.Machine.{Read, next_record}
use Rattle.csv.specs.Reading.{Reached, NextIs, ReadsNext, ExplainsRead, source_of, pending_of, default_config, strip_bom}
use Rattle.csv.specs.declared.reader.Reader.{Reader}
use Rattle.csv.specs.declared.error.ErrorKind.{ErrorKind}
use Rattle.csv.specs.declared.error.ErrorKind.TheVariants as kind
use Rattle.csv.specs.declared.parser.State.{State}
use Rattle.csv.specs.declared.parser.State.TheVariants as st
use Rattle.csv.specs.Records.{Row, field_at, fields_of}
use Rattle.csv.proofs.ReadFacts.{reached-more}
use Rattle.hm_tree.specs.Names.{Name}
use Rattle.hm_csv_records.specs.Rows.{Fields, BeginsWithMark, IsMarked, IsHeader, IsBad, AreGood}
use Rattle.hm_csv_records.specs.Reads.{IsFirstBad, RowsFaults, RefusesRow, Tells}
use Rattle.hm_csv_records.specs.declared.fault.RecordsFault.{RecordsFault}
use Rattle.hm_csv_records.specs.declared.fault.RecordsFault.TheVariants.{NotUtf8, BadItem, Memory}

-- a reader behind these records expects the length of the header
abbrev pub Expects : List Fields → Option ℕ → Type 0
Expects [] expected = expected ≡ None
Expects (header ∷ others) expected = expected ≡ Some (length header)

pub expects_more : (names : List Name) (rows : List Fields) (row : Fields) (old new : Option ℕ) → AreGood names rows → (rows ≡ [] → IsHeader names row) → Expects rows old
    → IfSome old (λ e. new ≡ Some e) → new ≡ Some (length row) → AreGood names (rows ++ row ∷ []) × Expects (rows ++ row ∷ []) new
expects_more names [] row old new good header e same is = ((header refl, All-nil (λ (q : Fields). length q ≡ length row)), is)
expects_more names (header ∷ others) row old new good first e same is =
    let kept : new ≡ Some (length header) = subst (λ (o : Option ℕ). IfSome o (λ e. new ≡ Some e)) e same in
    let long : length row ≡ length header = cc in
    ((good.0, All-push (λ (q : Fields). length q ≡ length header) others row good.1 long), kept)

-- records of which nothing is shown are none
pub map_nil : (rows : List Row) → map fields_of rows ≡ [] → rows ≡ []
map_nil [] e = refl
map_nil (row ∷ rows) e = let bad : ⊥ = cc in absurd bad

-- a record of another length than the reader expects
other_bad : (names : List Name) (rows : List Fields) (row : Fields) (old : Option ℕ) (expected len : ℕ) → Expects rows old → old ≡ Some expected → expected ≢ len
    → length row ≡ len → IsBad names rows row
other_bad names [] row old expected len e is other long = let bad : ⊥ = cc in absurd bad
other_bad names (header ∷ others) row old expected len e is other long = λ same.
    let first : expected ≡ length header = cc in
    other (first ∙ sym same ∙ long)

took : (o : Option Read) (row : Fields) (s : State) (rest : List ℕ) → NextIs o true row s rest → (p : Read) × (o ≡ Some p) × (row ≡ p.0)
took None row s rest n = let bad : ⊥ = cc in absurd bad
took (Some p) row s rest n = (p, refl, n.1)

-- a bad record behind good ones
pub first_bad : (names : List Name) (bytes : List ℕ) (rows : List Fields) (row : Fields) (a b : State) (y : List ℕ) (after : Option (List ℕ)) (number : ℕ)
    → Reached default_config st.StartRecord (strip_bom bytes) rows a y → ReadsNext default_config a (Some y) after true row b
    → AreGood names rows → IsBad names rows row → number ≡ length rows + 1 → IsFirstBad names bytes number
first_bad names bytes rows row a b y None number r next good bad place = absurd next
first_bad names bytes rows row a b y (Some z) number r next good bad place =
    let p = took (next_record default_config a [] [] y) row b z next in
    let more = reached-more default_config st.StartRecord a (strip_bom bytes) y rows p.0 r p.1 in
    record {
      before = rows;
      row = row;
      stand = (p.0.1, p.0.2, subst (λ (q : Fields). Reached default_config st.StartRecord (strip_bom bytes) (rows ++ q ∷ []) p.0.1 p.0.2) (sym p.2) more);
      good = good;
      bad = bad;
      place = place;
    }

-- why a reader refused, as a fault
pub refused_by : {R : Type 0} (rem : R → Option (List ℕ)) (a b : Reader R) (names : List Name) (bytes : List ℕ) (rows : List Fields) (y : List ℕ) (k : ErrorKind) (fault : RecordsFault) (before : ℕ)
    → a.config ≡ default_config → source_of rem a ≡ Some y → Reached default_config st.StartRecord (strip_bom bytes) rows a.state y → AreGood names rows → Expects rows a.expected → before ≡ length rows
    → ExplainsRead rem a b false k → Tells before k fault → RowsFaults names bytes fault
refused_by rem a b names bytes rows y (kind.UnequalLengths pos expected len) fault before ec ex r good e n why tells =
    let took_it : ReadsNext default_config a.state (Some y) (pending_of (rem b.rdr) b) true why.3 b.state = rw (ec, ex) at why.4 in
    let bad = other_bad names rows why.3 a.expected expected len e why.1 why.2 why.5 in
    let is : IsFirstBad names bytes (before + 1) = first_bad names bytes rows why.3 a.state b.state y (pending_of (rem b.rdr) b) (before + 1) r took_it good bad (ap (λ i. i + 1) n) in
    elim tells [
      | inl told ↦ subst (RowsFaults names bytes) (sym told) (inr is)
      | inr none ↦ subst (RowsFaults names bytes) (sym none) tt
    ]
refused_by rem a b names bytes rows y (kind.Io e) fault before ec ex r good x n why tells = subst (RowsFaults names bytes) (sym tells) tt
refused_by rem a b names bytes rows y (kind.Utf8 pos err) fault before ec ex r good x n why tells = subst (RowsFaults names bytes) (sym tells) tt
refused_by rem a b names bytes rows y kind.OutOfMemory fault before ec ex r good x n why tells = subst (RowsFaults names bytes) (sym tells) tt
refused_by rem a b names bytes rows y (kind.Serialize w) fault before ec ex r good x n why tells = subst (RowsFaults names bytes) (sym tells) tt
refused_by rem a b names bytes rows y (kind.Deserialize pos err) fault before ec ex r good x n why tells = subst (RowsFaults names bytes) (sym tells) tt

-- why a record that was read wasn't kept, as a fault
pub refused_row : {R : Type 0} (rem : R → Option (List ℕ)) (a b : Reader R) (names : List Name) (bytes : List ℕ) (rows : List Fields) (row : Fields) (y : List ℕ) (fault : RecordsFault)
    → a.config ≡ default_config → source_of rem a ≡ Some y → Reached default_config st.StartRecord (strip_bom bytes) rows a.state y → AreGood names rows
    → ReadsNext a.config a.state (source_of rem a) (pending_of (rem b.rdr) b) true row b.state → RefusesRow names rows row fault → RowsFaults names bytes fault
refused_row rem a b names bytes rows row y (NotUtf8 at) ec ex r good next why = absurd why
refused_row rem a b names bytes rows row y (BadItem number) ec ex r good next why =
    let took_it : ReadsNext default_config a.state (Some y) (pending_of (rem b.rdr) b) true row b.state = rw (ec, ex) at next in
    inr (first_bad names bytes rows row a.state b.state y (pending_of (rem b.rdr) b) number r took_it good why.0 why.1)
refused_row rem a b names bytes rows row y Memory ec ex r good next why = tt

-- a record is marked where its first field is
pub marked_some : (fields : Fields) (field : List ℕ) → Some field ≡ field_at fields 0 → (BeginsWithMark field → IsMarked fields) × (IsMarked fields → BeginsWithMark field)
unfolding field_at
marked_some [] field e = let bad : ⊥ = cc in absurd bad
marked_some (first ∷ fields) field e =
    let same : field ≡ first = cc in
    (subst BeginsWithMark same, subst BeginsWithMark (sym same))

pub marked_none : (fields : Fields) → None ≡ field_at fields 0 → ¬ (IsMarked fields)
unfolding field_at
marked_none [] e = λ h. h
marked_none (first ∷ fields) e = let bad : ⊥ = cc in absurd bad

-- a fault that is passed on
pub told : {A : Type 0} (r : Result A RecordsFault) (fault : RecordsFault) (P : RecordsFault → Type 0) → IsErrAnd r (λ e. e ≡ fault) → P fault → IfErr r P
told (Ok x) fault P h p = absurd h
told (Err e) fault P h p = subst P (sym h) p
