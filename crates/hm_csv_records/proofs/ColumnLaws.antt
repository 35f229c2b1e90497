-- The column of a name, record by record.
use Rattle.std.proofs.Common.{◌≡◌, ◌≢◌, ℕ, zero, suc, ◌<◌, ◌+◌, Bool, true, false, not, cond, Bor, map, List, [], ◌∷◌, ◌++◌, length, get_or, take, Option, Some, None, is_some, refl, sym, ap, ◌∙◌, subst, true≢false, arith}
use Rattle.std.specs.Option.{option_map, option_or}
use Rattle.std.specs.Ordering.{eq_by_cmp}
use Rattle.std.specs.BTreeMap.{is_at}
use Rattle.std.specs.FinSet.{FinSet, contains, from_list, contains-from_list}
use Rattle.std.specs.Cmp.{eq_by_cmp_equiv, Equal-is}
use Rattle.std.specs.Option.{option_copied}
use Rattle.std.proofs.lemmas.List.{take_more, length-take-le, map-append}
use Rattle.hm_tree.proofs.Sorted.{name_total, name_one}
use Rattle.csv.specs.Records.{field_at}
use Rattle.hm_tree.specs.Names.{Name, name_cmp}
use Rattle.hm_tree.specs.Cleaned.{cleaned}
use Rattle.hm_csv_records.specs.Rows.{Fields, IsMarked, IsHeader, column}
use Rattle.std.specs.Prelude.{All, Contains, MatchOption, Vec, IsTrue, ◌↔◌}
use Rattle.std.specs.declared.alloc.Global.{Global}
use Rattle.std.proofs.lemmas.List.Elements.{All-nil, All-cons, Contains-get_or}
use Rattle.std.proofs.lemmas.Map.Views.{list_any-from_Contains}

-- the field at a place
pub field_is : (fields : Fields) (place : ℕ) (field : List ℕ) → Some field ≡ field_at fields place → field ≡ get_or fields place []
unfolding field_at
field_is [] place field e = let bad : ⊥ = cc in absurd bad
field_is (f ∷ fields) zero field e = cc
field_is (f ∷ fields) (suc place) field e = field_is fields place field e

pub field_there : (fields : Fields) (place : ℕ) → place < length fields → None ≢ field_at fields place
unfolding field_at
field_there [] place lt e = omega (arith, lt)
field_there (f ∷ fields) zero lt e = let bad : ⊥ = cc in absurd bad
field_there (f ∷ fields) (suc place) lt e = field_there fields place (omega (arith, lt)) e

module _ (k : Name) (field : List ℕ) where
  -- a field behind others is the column of a name where none of these is
  abbrev at_end : ℕ → Bool → Option ℕ
  at_end place tied = cond tied (Some place) None

  later : (found : Option ℕ) (place : ℕ) (tied : Bool) → option_map suc (option_or found (at_end place tied)) ≡ option_or (option_map suc found) (at_end (suc place) tied)
  later (Some n) place tied = refl
  later None place true = refl
  later None place false = refl

  pub column_push : (fields : Fields) → column k (fields ++ field ∷ []) ≡ option_or (column k fields) (cond (eq_by_cmp name_cmp k (cleaned field)) (Some (length fields)) None)
  column_push [] = go (eq_by_cmp name_cmp k (cleaned field))
    where
      go : (tied : Bool) → cond {A = Option ℕ} tied (Some 0) None ≡ cond {A = Option ℕ} tied (Some 0) None
      go tied = refl
  column_push (f ∷ fields) = go (eq_by_cmp name_cmp k (cleaned f)) (column_push fields)
    where
      go : (tied : Bool) → column k (fields ++ field ∷ []) ≡ option_or (column k fields) (cond (eq_by_cmp name_cmp k (cleaned field)) (Some (length fields)) None)
          → cond tied (Some 0) (option_map suc (column k (fields ++ field ∷ [])))
          ≡ option_or (cond tied (Some 0) (option_map suc (column k fields))) (cond (eq_by_cmp name_cmp k (cleaned field)) (Some (suc (length fields))) None)
      go true behind = refl
      go false behind = ap (option_map suc) behind ∙ later (column k fields) (length fields) (eq_by_cmp name_cmp k (cleaned field))

-- one field more of a record
pub column_more : (fields : Fields) (place : ℕ) → place < length fields → (k : Name)
    → column k (take (place + 1) fields) ≡ option_or (column k (take place fields)) (cond (eq_by_cmp name_cmp k (cleaned (get_or fields place []))) (Some place) None)
column_more fields place lt k =
    ap (column k) (take_more fields place [] lt) ∙ column_push k (get_or fields place []) (take place fields)
    ∙ ap (λ n. option_or (column k (take place fields)) (cond (eq_by_cmp name_cmp k (cleaned (get_or fields place []))) (Some n) None)) (length-take-le place fields (omega (arith, lt)))

none_behind : (o : Option ℕ) → o ≡ option_or o None
none_behind None = refl
none_behind (Some n) = refl

module _ (title : Name) (place : ℕ) (old new : Name → Option ℕ) where
  -- a title that stands nowhere yet is put at its place
  pub put : is_some (old title) ≡ false → ((k : Name) → new k ≡ cond (is_at (name_cmp title) k) (Some place) (old k)) → (k : Name)
      → new k ≡ option_or (old k) (cond (eq_by_cmp name_cmp k title) (Some place) None)
  put none puts k = puts k ∙ here (is_at (name_cmp title) k) refl ∙ ap (λ b. option_or (old k) (cond b (Some place) None)) ((eq_by_cmp_equiv name_total).symm title k)
    where
      nothing : (o : Option ℕ) → is_some o ≡ false → o ≡ None
      nothing None e = refl
      nothing (Some n) e = let bad : ⊥ = cc in absurd bad

      here : (t : Bool) → is_at (name_cmp title) k ≡ t → cond t (Some place) (old k) ≡ option_or (old k) (cond t (Some place) None)
      here true e =
          let same : title ≡ k = name_one title k ((Equal-is (name_cmp title k)).0 e) in
          ap (λ o. option_or o (Some place)) (sym (nothing (old title) none) ∙ ap old same)
      here false e = none_behind (old k)

  -- one that stands before is left there
  pub leave : is_some (old title) ≡ true → (k : Name) → old k ≡ option_or (old k) (cond (eq_by_cmp name_cmp k title) (Some place) None)
  leave there k = here (eq_by_cmp name_cmp k title) refl
    where
      stands_before : (o : Option ℕ) → is_some o ≡ true → o ≡ option_or o (Some place)
      stands_before None e = let bad : ⊥ = cc in absurd bad
      stands_before (Some n) e = refl

      here : (t : Bool) → eq_by_cmp name_cmp k title ≡ t → old k ≡ option_or (old k) (cond t (Some place) None)
      here true e =
          let same : k ≡ title = name_one k title ((Equal-is (name_cmp k title)).0 e) in
          stands_before (old k) (ap (λ k. is_some (old k)) same ∙ there)
      here false e = none_behind (old k)

  -- a title that isn't wanted is none of the wanted names
  pub pass : (wanted : FinSet name_cmp) → contains wanted title ≡ false → (k : Name) → IsTrue (contains wanted k)
      → old k ≡ option_or (old k) (cond (eq_by_cmp name_cmp k title) (Some place) None)
  pass wanted off k in_it = here (eq_by_cmp name_cmp k title) refl
    where
      here : (t : Bool) → eq_by_cmp name_cmp k title ≡ t → old k ≡ option_or (old k) (cond t (Some place) None)
      here true e =
          let same : k ≡ title = name_one k title ((Equal-is (name_cmp k title)).0 e) in
          absurd (true≢false (sym in_it ∙ ap (contains wanted) same ∙ off))
      here false e = none_behind (old k)

-- each of some names is in the set of them
pub is_wanted : (names : List Name) (index : ℕ) (name : Name) (wanted : FinSet name_cmp) → index < length names → name ≡ get_or names index name
    → wanted ≡ from_list names → IsTrue (contains wanted name)
is_wanted names index name wanted lt is set =
    ap (λ (s : FinSet name_cmp). contains s name) set ∙ contains-from_list name_total names name
    ∙ list_any-from_Contains (eq_by_cmp_equiv name_total) name names (subst (Contains names) (sym is) (Contains-get_or names index name lt))

-- a name that has no column
pub lacks : (fields : Fields) (names : List Name) (index : ℕ) (name : Name) → index < length names → name ≡ get_or names index name → column name fields ≡ None
    → ¬ (All (λ k. column k fields ≢ None) names)
lacks fields names index name lt is none all = all index name lt (ap (λ k. column k fields) (sym is) ∙ none)

-- whether something was found, of what is lent and of its value
pub found : (o : Option (Bor ℕ)) (r : Option ℕ) (missing b : Bool) → option_copied o ≡ r → is_some o ≡ not missing → missing ≡ b → is_some r ≡ not b
found None r missing b e is same = ap is_some (sym e) ∙ is ∙ ap not same
found (Some n) r missing b e is same = ap is_some (sym e) ∙ is ∙ ap not same

-- one name more that has a column
pub place_more : (fields : Fields) (names : List Name) (index : ℕ) (places more : List ℕ) (place : ℕ) (name : Name) → index < length names
    → map (λ k. column k fields) (take index names) ≡ map Some places → name ≡ get_or names index name → column name fields ≡ Some place → more ≡ places ++ place ∷ []
    → map (λ k. column k fields) (take (index + 1) names) ≡ map Some more
place_more fields names index places more place name lt before is here pushed =
    ap (map (λ k. column k fields)) (take_more names index name lt ∙ ap (λ (k : Name). take index names ++ k ∷ []) (sym is))
    ∙ map-append (λ k. column k fields) (take index names) (name ∷ [])
    ∙ (λ i. before i ++ here i ∷ [])
    ∙ sym (map-append Some places (place ∷ [])) ∙ ap (map Some) (sym pushed)

-- the names have columns where places are found for them
have : (fields : Fields) (names : List Name) (places : List ℕ) → map (λ k. column k fields) names ≡ map Some places → All (λ k. column k fields ≢ None) names
have fields [] places e = All-nil (λ (k : Name). column k fields ≢ None)
have fields (k ∷ names) [] e = let bad : ⊥ = cc in absurd bad
have fields (k ∷ names) (place ∷ places) e =
    let here : column k fields ≡ Some place = cc in
    let behind : map (λ k. column k fields) names ≡ map Some places = cc in
    All-cons (λ (k : Name). column k fields ≢ None) k names (λ none. let bad : ⊥ = cc in bad) (have fields names places behind)

-- a record that isn't marked may be the header where places are found
pub decides : (names : List Name) (row : Fields) (found : Option (Vec ℕ Global)) (answer marked : Bool) → IsTrue marked ↔ IsMarked row → marked ≡ false
    → MatchOption found (¬ (All (λ k. column k row ≢ None) names)) (λ places. map (λ k. column k row) names ≡ map Some places.items) → answer ≡ is_some found
    → IsTrue answer ↔ IsHeader names row
decides names row None answer marked is plain none e = ((λ t. let bad : ⊥ = cc in absurd bad), (λ h. absurd (none h.columns)))
decides names row (Some places) answer marked is plain some e =
    ((λ t. record { plain = λ m. let yes_marked = is.1 m in let bad : ⊥ = cc in bad; columns = have row names places.items some }), (λ h. e))
