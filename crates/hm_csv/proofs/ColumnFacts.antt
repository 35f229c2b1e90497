-- The columns that options name, by a header.
use Rattle.std.proofs.Common.{◌≡◌, ◌≢◌, T, ℕ, zero, suc, ◌+◌, ◌<◌, Bool, true, false, cond, List, [], ◌∷◌, length, get_or, map, slice_get, Option, Some, None, refl, sym, ap, ◌∙◌, subst, arith}
use Rattle.std.specs.Prelude.{All, unwrap_or}
use Rattle.std.specs.Option.{option_map}
use Rattle.std.specs.Ordering.{eq_by_cmp}
use Rattle.std.specs.Bool.{◌==◌}
use Rattle.std.proofs.lemmas.Bool.{eqb-true, eq-eqb}
use Rattle.std.proofs.lemmas.Option.{slice_get-get_or}
use Rattle.std.proofs.lemmas.List.{get_or-map, length-map}
use Rattle.std.proofs.lemmas.List.Elements.{All-nil, All-cons}
use Rattle.hm_tree.specs.Names.{Name, name_cmp}
use Rattle.hm_tree.specs.Cleaned.{cleaned}
use Rattle.hm_tree.specs.Nodes.{are_edges}
use Rattle.hm_tree.proofs.Sorted.{name_one}
use Rattle.hm_schema.specs.Values.{OptionsValue}
use Rattle.hm_csv_records.specs.Rows.{Fields, IsHeader, column}
use Rattle.hm_csv_columns.specs.declared.column.Column.{Column}
use Rattle.hm_csv_columns.specs.Records.{AreColumns, column_at, shown_by}
use Rattle.hm_format.specs.Options.{AreSound, is_among, bad_key}
use Rattle.hm_csv.specs.Options.{csv_rules, key_name, many_names, shown_names, shown_of, column_names}
use Rattle.hm_csv.proofs.ShownNames.{shown_are, key_apart}
use Rattle.hm_csv.specs.Tables.{place_in, key_place, column_for, columns_of}
use Rattle.hm_facts.proofs.Orderings.{equal}

firsts : (f : Name → Bool) (names : List Name) → map (λ (s : Name × Bool). s.0) (map (λ (k : Name). (k, f k)) names) ≡ names
firsts f [] = refl
firsts f (k ∷ names) = λ i. k ∷ firsts f names i

pub names_shown : (o : OptionsValue) → map (λ (s : Name × Bool). s.0) (shown_of o) ≡ shown_names o
names_shown o = firsts _ (shown_names o)

-- ---- places in a header

-- a column's place is one of its fields
pub column_below : (k : Name) (header : Fields) (place : ℕ) → column k header ≡ Some place → place < length header
column_below k [] place e = let no : ⊥ = cc in absurd no
column_below k (field ∷ header) place e = go (eq_by_cmp name_cmp k (cleaned field)) (column k header) e (column_below k header)
  where
    go : (tied : Bool) (found : Option ℕ) → cond tied (Some 0) (option_map suc found) ≡ Some place
        → ((place : ℕ) → found ≡ Some place → place < length header) → place < suc (length header)
    go true found e rest = let zero_is : 0 ≡ place = cc in omega (arith, zero_is)
    go false None e rest = let no : ⊥ = cc in absurd no
    go false (Some n) e rest =
        let more : suc n ≡ place = cc in
        let lt = rest n refl in
        omega (arith, more, lt)

pub place_found : (header : Fields) (k : Name) → column k header ≢ None → column k header ≡ Some (place_in header k)
place_found header k = go (column k header)
  where
    go : (found : Option ℕ) → found ≢ None → found ≡ Some (unwrap_or found 0)
    go None some = absurd (some refl)
    go (Some n) some = refl

pub place_below : (header : Fields) (k : Name) → column k header ≢ None → place_in header k < length header
place_below header k some = column_below k header (place_in header k) (place_found header k some)

-- the places that were found for names
places_are : (header : Fields) (names : List Name) (places : List ℕ) → map (λ k. column k header) names ≡ map Some places
    → places ≡ map (place_in header) names
places_are header [] [] e = refl
places_are header [] (place ∷ places) e = let no : ⊥ = cc in absurd no
places_are header (k ∷ names) [] e = let no : ⊥ = cc in absurd no
places_are header (k ∷ names) (place ∷ places) e =
    let here : column k header ≡ Some place = cc in
    let behind : map (λ k. column k header) names ≡ map Some places = cc in
    let first : place ≡ place_in header k = sym (ap (λ o. unwrap_or o 0) here) in
    λ i. first i ∷ places_are header names places behind i

shown_at : (header : Fields) (shown : List (Name × Bool)) (n d : ℕ) (s : Name × Bool) → n < length shown → s ≡ get_or shown n s
    → get_or (map (place_in header) (map (λ (s : Name × Bool). s.0) shown)) n d ≡ place_in header s.0
shown_at header [] n d s lt is = absurd (omega (arith, lt))
shown_at header (x ∷ shown) zero d s lt is = ap (λ (s : Name × Bool). place_in header s.0) (sym is)
shown_at header (x ∷ shown) (suc n) d s lt is = shown_at header shown n d s (omega (arith, lt)) is

module _ (o : OptionsValue) (header : Fields) (names : List Name) (places : List ℕ) (named : names ≡ column_names o)
    (found : map (λ k. column k header) names ≡ map Some places) where
  all_places : places ≡ place_in header (key_name o) ∷ map (place_in header) (map (λ (s : Name × Bool). s.0) (shown_of o))
  all_places =
      places_are header names places found ∙ ap (map (place_in header)) named
      ∙ ap (λ (ns : List Name). place_in header (key_name o) ∷ map (place_in header) ns) (sym (names_shown o))

  -- the place behind those of the key and of so many columns
  pub next_place : (n d : ℕ) (s : Name × Bool) → n < length (shown_of o) → s ≡ get_or (shown_of o) n s → get_or places (n + 1) d ≡ place_in header s.0
  next_place n d s lt is =
      let one : n + 1 ≡ suc n = omega arith in
      ap (λ i. get_or places i d) one ∙ ap (λ (ps : List ℕ). get_or ps (suc n) d) all_places ∙ shown_at header (shown_of o) n d s lt is

-- ---- the columns of a header

all_within : (header : Fields) (shown : List (Name × Bool)) → All (λ k. column k header ≢ None) (map (λ (s : Name × Bool). s.0) shown)
    → All (λ (c : Column). c.place < length header) (map (column_for header) shown)
all_within header [] all = All-nil (λ (c : Column). c.place < length header)
all_within header (s ∷ shown) all =
    All-cons (λ (c : Column). c.place < length header) (column_for header s) (map (column_for header) shown)
    (place_below header s.0 (all 0 s.0 (omega arith))) (all_within header shown (λ i d lt. all (suc i) d (omega (arith, lt))))

pub within : (o : OptionsValue) (header : Fields) → IsHeader (column_names o) header → All (λ (c : Column). c.place < length header) (columns_of o header)
within o header is =
    all_within header (shown_of o)
    (subst (All (λ k. column k header ≢ None)) (sym (names_shown o)) (λ i d lt. is.columns (suc i) d (omega (arith, lt))))

-- a name that a header has is the cleaned field at its place
place_name : (k : Name) (header : Fields) (place : ℕ) → column k header ≡ Some place → k ≡ cleaned (get_or header place [])
place_name k [] place e = let no : ⊥ = cc in absurd no
place_name k (field ∷ header) place e = go (eq_by_cmp name_cmp k (cleaned field)) refl (column k header) e (place_name k header)
  where
    go : (tied : Bool) → eq_by_cmp name_cmp k (cleaned field) ≡ tied → (found : Option ℕ) → cond tied (Some 0) (option_map suc found) ≡ Some place
        → ((place : ℕ) → found ≡ Some place → k ≡ cleaned (get_or header place [])) → k ≡ cleaned (get_or (field ∷ header) place [])
    go true t found e rest =
        let front : 0 ≡ place = cc in
        name_one k (cleaned field) (equal _ t) ∙ ap (λ i. cleaned (get_or (field ∷ header) i [])) front
    go false t None e rest = let no : ⊥ = cc in absurd no
    go false t (Some n) e rest =
        let more : suc n ≡ place = cc in
        rest n refl ∙ ap (λ i. cleaned (get_or (field ∷ header) i [])) more

module _ (header : Fields) where
  -- so names at one place are one
  same_name : (k q : Name) → column k header ≢ None → column q header ≢ None → place_in header k ≡ place_in header q → k ≡ q
  same_name k q one two same =
      place_name k header (place_in header k) (place_found header k one)
      ∙ ap (λ i. cleaned (get_or header i [])) same
      ∙ sym (place_name q header (place_in header q) (place_found header q two))

  module _ (many : Name → Bool) where
    abbrev column_of : Name → Column
    column_of k = column_for header (k, many k)

    abbrev columns_in : List Name → List Column
    columns_in names = map (column_for header) (map (λ (k : Name). (k, many k)) names)

    -- at the place of one of the names is its column
    itself : (names : List Name) → All (λ k. column k header ≢ None) names → (i : ℕ) (k : Name) → slice_get names i ≡ Some k → column k header ≢ None
        → column_at (columns_in names) (place_in header k) ≡ Some (column_of k)
    itself [] all i k at some = let no : ⊥ = cc in absurd no
    itself (n ∷ names) all i k at some =
        go (place_in header n == place_in header k) refl i at (λ i at. itself names (λ i d lt. all (suc i) d (omega (arith, lt))) i k at some)
      where
        go : (b : Bool) → (place_in header n == place_in header k) ≡ b → (i : ℕ) → slice_get (n ∷ names) i ≡ Some k
            → ((i : ℕ) → slice_get names i ≡ Some k → column_at (columns_in names) (place_in header k) ≡ Some (column_of k))
            → cond b (Some (column_of n)) (column_at (columns_in names) (place_in header k)) ≡ Some (column_of k)
        go true e i at rest = ap (λ k. Some (column_of k)) (same_name n k (all 0 n (omega arith)) some (eqb-true _ _ e))
        go false e zero at rest =
            let same : n ≡ k = cc in
            let one : (place_in header n == place_in header k) ≡ true = eq-eqb (place_in header n) (place_in header k) (ap (place_in header) same) in
            let no : ⊥ = cc in
            absurd no
        go false e (suc i) at rest = rest i at

    -- at that of another name is none
    no_column : (names : List Name) → All (λ k. column k header ≢ None) names → (key : Name) → column key header ≢ None
        → ((i : ℕ) (k : Name) → slice_get names i ≡ Some k → k ≢ key) → column_at (columns_in names) (place_in header key) ≡ None
    no_column [] all key some other = refl
    no_column (n ∷ names) all key some other =
        go (place_in header n == place_in header key) refl
        (no_column names (λ i d lt. all (suc i) d (omega (arith, lt))) key some (λ i k at. other (suc i) k at))
      where
        go : (b : Bool) → (place_in header n == place_in header key) ≡ b → column_at (columns_in names) (place_in header key) ≡ None
            → cond b (Some (column_of n)) (column_at (columns_in names) (place_in header key)) ≡ None
        go true e rest = absurd (other 0 n refl (same_name n key (all 0 n (omega arith)) some (eqb-true _ _ e)))
        go false e rest = rest

shown_back : (header : Fields) (shown : List (Name × Bool)) → shown_by (map (column_for header) shown) ≡ shown
shown_back header [] = refl
shown_back header (s ∷ shown) = λ i. s ∷ shown_back header shown i

-- ---- the columns of a header that has them

pub columns_are : (o : OptionsValue) (header : Fields) → AreSound o → bad_key csv_rules o ≡ None → IsHeader (column_names o) header
    → AreColumns (columns_of o header) (key_place o header) (length header)
columns_are o header sound none is =
    let names = shown_names o in
    let many = is_among (many_names o) in
    let all : All (λ k. column k header ≢ None) names = λ i d lt. is.columns (suc i) d (omega (arith, lt)) in
    let key = is.columns 0 (key_name o) (omega arith) in
    let long = length-map (shown_of o) (column_for header) in
    let long_names = length-map {B = Name × Bool} names (λ k. (k, many k)) in
    record {
      names = subst (λ shown. T (are_edges shown)) (sym (shown_back header (shown_of o))) (shown_are o sound);
      within = within o header is;
      apart = λ i d lt.
          let under : i < length names = omega (arith, lt, long, long_names) in
          let k = get_or names i [] in
          let here : get_or (columns_of o header) i d ≡ column_of header many k =
          get_or-map (column_for header) (shown_of o) i (k, many k) d (omega (arith, lt, long))
          ∙ ap (column_for header) (get_or-map {Y = Name × Bool} (λ k. (k, many k)) names i [] (k, many k) under) in
          subst (λ (c : Column). column_at (columns_of o header) c.place ≡ Some c) (sym here)
          (itself header many names all i k (slice_get-get_or names i [] under) (all i [] under));
      key_within = place_below header (key_name o) key;
      key_apart = no_column header many names all (key_name o) key (key_apart o none);
    }
