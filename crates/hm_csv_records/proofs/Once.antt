-- The records of bytes are determined, and so is the first bad one.
use Rattle.std.proofs.Common.{◌≡◌, ◌≢◌, ◌⊎◌, ℕ, ◌+◌, List, [], ◌∷◌, ◌++◌, length, Option, Some, None, refl, sym, ap, ◌∙◌, subst, inl, inr, arith, length-append}
use Rattle.std.proofs.Math.Seq.{get_or-append_seam}
use Rattle.csv.specs.Machine.{Read, next_record}
use Rattle.csv.specs.Reading.{AreRecords, Reached, default_config, strip_bom}
use Rattle.csv.specs.declared.parser.State.{State}
use Rattle.csv.specs.declared.parser.State.TheVariants as st
use Rattle.hm_tree.specs.Names.{Name}
use Rattle.hm_csv_records.specs.Rows.{Fields, IsBad, AreGood}
use Rattle.hm_csv_records.specs.Reads.{AreAll, IsFirstBad, IsBadItem}

abbrev next : State → List ℕ → Option Read
next s xs = next_record default_config s [] [] xs

abbrev All_of : State → List ℕ → List Fields → Type 0
All_of = AreRecords default_config

abbrev First : State → List ℕ → List Fields → Type 0
First s xs rows = (s2 : State) × (ys : List ℕ) × Reached default_config s xs rows s2 ys

none_after : (s : State) (xs : List ℕ) → All_of s xs [] → next s xs ≡ None
unfolding Reached
none_after s xs h = rw (h.2.0, h.2.1) h.3

-- a record stands at the front, and the others behind it
all_after : (s : State) (xs : List ℕ) (row : Fields) (rows : List Fields) → All_of s xs (row ∷ rows) → (p : Read) × (next s xs ≡ Some p) × (row ≡ p.0) × All_of p.1 p.2 rows
unfolding Reached
all_after s xs row rows h = (h.2.0, h.2.1, h.2.2, (h.0, h.1, h.2.3, h.3))

first_after : (s : State) (xs : List ℕ) (row : Fields) (rows : List Fields) → First s xs (row ∷ rows) → (p : Read) × (next s xs ≡ Some p) × (row ≡ p.0) × First p.1 p.2 rows
unfolding Reached
first_after s xs row rows h = (h.2.0, h.2.1, h.2.2, (h.0, h.1, h.2.3))

same_read : (o : Option Read) (p q : Read) → o ≡ Some p → o ≡ Some q → p ≡ q
same_read o p q h k = let e : Some p ≡ Some q = sym h ∙ k in cc

none_some : (o : Option Read) (p : Read) → o ≡ None → o ≡ Some p → ⊥
none_some o p h k = let e : None ≡ Some p = sym h ∙ k in cc

pub all_once : (s : State) (xs : List ℕ) (rows others : List Fields) → All_of s xs rows → All_of s xs others → rows ≡ others
all_once s xs [] [] h k = refl
all_once s xs [] (q ∷ qs) h k = let b = all_after s xs q qs k in absurd (none_some (next s xs) b.0 (none_after s xs h) b.1)
all_once s xs (r ∷ rs) [] h k = let a = all_after s xs r rs h in absurd (none_some (next s xs) a.0 (none_after s xs k) a.1)
all_once s xs (r ∷ rs) (q ∷ qs) h k =
    let a = all_after s xs r rs h in
    let b = all_after s xs q qs k in
    let same = same_read (next s xs) b.0 a.0 b.1 a.1 in
    let heads : r ≡ q = a.2 ∙ ap (λ (p : Read). p.0) (sym same) ∙ sym b.2 in
    let tails = all_once a.0.1 a.0.2 rs qs a.3 (subst (λ (p : Read). All_of p.1 p.2 qs) same b.3) in
    (λ i. heads i ∷ tails i)

-- the first records are a beginning of all of them
pub within : (s : State) (xs : List ℕ) (rows before : List Fields) (row : Fields) → All_of s xs rows → First s xs (before ++ row ∷ []) → (more : List Fields) × (rows ≡ before ++ row ∷ more)
within s xs [] [] row h k = let b = first_after s xs row [] k in absurd (none_some (next s xs) b.0 (none_after s xs h) b.1)
within s xs [] (q ∷ qs) row h k = let b = first_after s xs q (qs ++ row ∷ []) k in absurd (none_some (next s xs) b.0 (none_after s xs h) b.1)
within s xs (r ∷ rs) [] row h k =
    let a = all_after s xs r rs h in
    let b = first_after s xs row [] k in
    let same = same_read (next s xs) b.0 a.0 b.1 a.1 in
    (rs, ap (λ (q : Fields). q ∷ rs) (a.2 ∙ ap (λ (p : Read). p.0) (sym same) ∙ sym b.2))
within s xs (r ∷ rs) (q ∷ qs) row h k =
    let a = all_after s xs r rs h in
    let b = first_after s xs q (qs ++ row ∷ []) k in
    let same = same_read (next s xs) b.0 a.0 b.1 a.1 in
    let heads : r ≡ q = a.2 ∙ ap (λ (p : Read). p.0) (sym same) ∙ sym b.2 in
    let rest = within a.0.1 a.0.2 rs qs row a.3 (subst (λ (p : Read). First p.1 p.2 (qs ++ row ∷ [])) same b.3) in
    (rest.0, λ i. heads i ∷ rest.1 i)

-- of two beginnings, one goes on as the other does
pub compared : (s : State) (xs : List ℕ) (before other : List Fields) (row last : Fields) → First s xs (before ++ row ∷ []) → First s xs (other ++ last ∷ [])
    → (before ≡ other) ⊎ ((more : List Fields) × (other ≡ before ++ row ∷ more)) ⊎ ((more : List Fields) × (before ≡ other ++ last ∷ more))
compared s xs [] [] row last h k = inl refl
compared s xs [] (q ∷ qs) row last h k =
    let a = first_after s xs row [] h in
    let b = first_after s xs q (qs ++ last ∷ []) k in
    let same = same_read (next s xs) b.0 a.0 b.1 a.1 in
    inr (inl (qs, ap (λ (x : Fields). x ∷ qs) (b.2 ∙ ap (λ (p : Read). p.0) same ∙ sym a.2)))
compared s xs (r ∷ rs) [] row last h k =
    let a = first_after s xs r (rs ++ row ∷ []) h in
    let b = first_after s xs last [] k in
    let same = same_read (next s xs) b.0 a.0 b.1 a.1 in
    inr (inr (rs, ap (λ (x : Fields). x ∷ rs) (a.2 ∙ ap (λ (p : Read). p.0) (sym same) ∙ sym b.2)))
compared s xs (r ∷ rs) (q ∷ qs) row last h k =
    let a = first_after s xs r (rs ++ row ∷ []) h in
    let b = first_after s xs q (qs ++ last ∷ []) k in
    let same = same_read (next s xs) b.0 a.0 b.1 a.1 in
    let heads : r ≡ q = a.2 ∙ ap (λ (p : Read). p.0) (sym same) ∙ sym b.2 in
    elim (compared a.0.1 a.0.2 rs qs row last a.3 (subst (λ (p : Read). First p.1 p.2 (qs ++ last ∷ [])) same b.3)) [
      | inl e ↦ inl (λ i. heads i ∷ e i)
      | inr apart ↦ elim apart [
        | inl longer ↦ let back = sym heads in inr (inl (longer.0, λ i. back i ∷ longer.1 i))
        | inr shorter ↦ inr (inr (shorter.0, λ i. heads i ∷ shorter.1 i))
      ]
    ]

-- among good records none is bad
pub good_row : (names : List Name) (before : List Fields) (row : Fields) (more : List Fields) → AreGood names (before ++ row ∷ more) → ¬ (IsBad names before row)
good_row names [] row more good = λ bad. bad good.0
good_row names (header ∷ others) row more good = λ bad.
    let n : length (others ++ row ∷ more) ≡ length others + length (row ∷ more) = length-append others (row ∷ more) in
    let at = good.1 (length others) row (omega arith) in
    bad (ap length (sym (get_or-append_seam others row more row)) ∙ at)

-- where all records are good, none is a bad one
pub good_no_bad : (names : List Name) (bytes : List ℕ) (rows : List Fields) (number : ℕ) → AreAll bytes rows → rows ≢ [] → AreGood names rows → ¬ (IsBadItem names bytes number)
good_no_bad names bytes rows number all some good (inl none) = some (all_once st.StartRecord (strip_bom bytes) rows [] all none.1)
good_no_bad names bytes rows number all some good (inr f) =
    let w = within st.StartRecord (strip_bom bytes) rows f.before f.row all f.stand in
    good_row names f.before f.row w.0 (subst (AreGood names) w.1 good) f.bad

none_first : (names : List Name) (bytes : List ℕ) (number : ℕ) → AreAll bytes [] → ¬ (IsFirstBad names bytes number)
none_first names bytes number none f = absurd (no_cons (within st.StartRecord (strip_bom bytes) [] f.before f.row none f.stand))
  where
    no_cons : (more : List Fields) × ([] ≡ f.before ++ f.row ∷ more) → ⊥
    no_cons w = let n = length-append f.before (f.row ∷ w.0) in let e : 0 ≡ length (f.before ++ f.row ∷ w.0) = ap length w.1 in omega arith

-- a bad record has one number
pub bad_once : (names : List Name) (bytes : List ℕ) (one other : ℕ) → IsBadItem names bytes one → IsBadItem names bytes other → one ≡ other
bad_once names bytes one other (inl h) (inl k) = h.0 ∙ sym k.0
bad_once names bytes one other (inl h) (inr k) = absurd (none_first names bytes other h.1 k)
bad_once names bytes one other (inr h) (inl k) = absurd (none_first names bytes one k.1 h)
bad_once names bytes one other (inr h) (inr k) = elim (compared st.StartRecord (strip_bom bytes) h.before k.before h.row k.row h.stand k.stand) [
  | inl e ↦ h.place ∙ ap (λ (l : List Fields). length l + 1) e ∙ sym k.place
  | inr apart ↦ elim apart [
    | inl longer ↦ absurd (good_row names h.before h.row longer.0 (subst (AreGood names) longer.1 k.good) h.bad)
    | inr shorter ↦ absurd (good_row names k.before k.row shorter.0 (subst (AreGood names) shorter.1 h.good) k.bad)
  ]
]
