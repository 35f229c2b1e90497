-- Records, field by field.
use Rattle.std.proofs.Common.{◌≡◌, ℕ, zero, suc, ◌+◌, ◌<◌, Bool, true, ◌&&◌, cond, T, List, [], ◌∷◌, ◌++◌, length, get_or, map, take, Option, Some, None, refl, sym, ap, ◌∙◌, subst, arith}
use Rattle.std.specs.Prelude.{MatchOption}
use Rattle.std.specs.Bool.{◌==◌}
use Rattle.std.specs.Borrow.{Bor}
use Rattle.std.specs.Option.{option_map}
use Rattle.std.specs.Ordering.{is_lt}
use Rattle.std.specs.FinMap.{is_sorted}
use Rattle.std.specs.FinMap.Entries.{below_all}
use Rattle.std.specs.List.{range_with_len}
use Rattle.std.proofs.lemmas.List.{take_more, length-take-le, map-append}
use Rattle.csv.specs.Records.{Row, fields_of, field_count}
use Rattle.csv.proofs.RecordFacts.{cut-length}
use Rattle.hm_tree.specs.Names.{Name, name_cmp}
use Rattle.hm_tree.specs.Nodes.{Tree, are_edges, edges_rise}
use Rattle.hm_book_cards.specs.Cards.{texts_at}
use Rattle.hm_csv_columns.specs.Fields.{texts_shown, same_texts, made}
use Rattle.hm_csv_columns.specs.Records.{Fields, shown_by, texts_by, column_at, field_in, rewritten_from, rewritten, blank}
use Rattle.hm_csv_columns.specs.declared.column.Column.{Column}

-- the texts of a record stand below the names of its columns
below_same : (k : Name) (columns : List Column) (row : Fields) → below_all name_cmp k (shown_by columns) ≡ below_all name_cmp k (texts_by columns row)
below_same k [] row = refl
below_same k (c ∷ columns) row = ap (λ b. is_lt (name_cmp k c.name) && b) (below_same k columns row)

sorted_same : (columns : List Column) (row : Fields) → is_sorted name_cmp (shown_by columns) ≡ is_sorted name_cmp (texts_by columns row)
sorted_same [] row = refl
sorted_same (c ∷ columns) row = λ i. below_same c.name columns row i && sorted_same columns row i

pub texts_sorted : (columns : List Column) (row : Fields) → T (are_edges (shown_by columns)) → T (is_sorted name_cmp (texts_by columns row))
texts_sorted columns row h = subst T (sorted_same columns row) (edges_rise (shown_by columns) h)

-- one field more of a record that is to show a card
push_from : (columns : List Column) (card : Tree) (place : ℕ) (fields : Fields) (field : List ℕ)
    → rewritten_from columns card place (fields ++ field ∷ []) ≡ rewritten_from columns card place fields ++ field_in (column_at columns (place + length fields)) card field ∷ []
push_from columns card place [] field = ap (λ j. field_in (column_at columns j) card field ∷ []) (omega arith)
push_from columns card place (f ∷ fields) field =
    ap (λ l. field_in (column_at columns place) card f ∷ l)
    (push_from columns card (place + 1) fields field
    ∙ ap (λ j. rewritten_from columns card (place + 1) fields ++ field_in (column_at columns j) card field ∷ []) (omega arith))

pub field_more : (columns : List Column) (card : Tree) (row : Fields) (place : ℕ) (column : Option Column) (field : List ℕ) (new more : Fields) → place < length row
    → new ≡ rewritten columns card (take place row) → column ≡ column_at columns place → field ≡ get_or row place []
    → more ≡ new ++ field_in column card field ∷ [] → more ≡ rewritten columns card (take (place + 1) row)
field_more columns card row place column field new more lt before is at pushed =
    let e = length-take-le place row (omega (arith, lt)) in
    let here : place ≡ 0 + length (take place row) = omega (arith, e) in
    pushed ∙ (λ i. before i ++ field_in (is i) card (at i) ∷ [])
    ∙ ap (λ j. rewritten columns card (take place row) ++ field_in (column_at columns j) card (get_or row place []) ∷ []) here
    ∙ sym (push_from columns card 0 (take place row) (get_or row place []))
    ∙ ap (rewritten columns card) (sym (take_more row place [] lt))

-- one field more that stays
pub stays_more : (columns : List Column) (card : Tree) (row : Fields) (place : ℕ) (column : Option Column) (field : List ℕ) → place < length row
    → rewritten columns card (take place row) ≡ take place row → column ≡ column_at columns place → field ≡ get_or row place []
    → field_in column card field ≡ field → rewritten columns card (take (place + 1) row) ≡ take (place + 1) row
stays_more columns card row place column field lt before is at stays =
    sym (field_more columns card row place column field (take place row) (take (place + 1) row) lt (sym before) is at
    (take_more row place [] lt ∙ ap (λ (f : List ℕ). take place row ++ f ∷ []) (sym at ∙ sym stays)))

-- a field stays where its texts do
pub stays_here : (column : Option (Bor Column)) (card : Tree) (field : List ℕ) (kept : Bool)
    → MatchOption column (kept ≡ true) (λ c. kept ≡ same_texts (texts_shown c.now.many field) (texts_at c.now.name card)) → kept ≡ true
    → field_in (option_map (λ c. c.now) column) card field ≡ field
stays_here None card field kept is e = refl
stays_here (Some c) card field kept is e = ap (λ b. cond b field (made c.now.many field (texts_at c.now.name card))) (sym is ∙ e)

-- a record that is cut off has no field that isn't ended
pub cut_whole : (row : Row) (place : ℕ) → place < length (fields_of row) → place < field_count row
cut_whole row place lt = let e = cut-length 0 row.ends row.bytes in omega (arith, lt, e)

-- one field more of a blank record
range_more : (a n : ℕ) → range_with_len a (n + 1) ≡ range_with_len a n ++ (a + n) ∷ []
range_more a n = let one : n + 1 ≡ suc n = omega arith in ap (range_with_len a) one ∙ go n a
  where
    go : (n a : ℕ) → range_with_len a (suc n) ≡ range_with_len a n ++ (a + n) ∷ []
    go zero a = ap (λ j. j ∷ []) (omega arith)
    go (suc n) a = ap (λ l. a ∷ l) (go n (a + 1) ∙ ap (λ j. range_with_len (a + 1) n ++ j ∷ []) (omega arith))

pub blank_more : (place : ℕ) (key : Name) (at : ℕ) (field : List ℕ) (new more : Fields) → new ≡ blank place key at → field ≡ cond (at == place) key []
    → more ≡ new ++ field ∷ [] → more ≡ blank place key (at + 1)
blank_more place key at field new more before is pushed =
    pushed ∙ (λ i. before i ++ is i ∷ [])
    ∙ sym (ap (map (λ j. cond (j == place) key [])) (range_more 0 at ∙ (let same : 0 + at ≡ at = omega arith in ap (λ j. range_with_len 0 at ++ j ∷ []) same))
    ∙ map-append (λ j. cond (j == place) key []) (range_with_len 0 at) (at ∷ []))
