-- Records with keys, and the first that has none.
use Rattle.std.proofs.Common.{◌≡◌, ℕ, suc, ◌+◌, ◌<◌, ◌≤◌, true, false, List, [], ◌∷◌, ◌++◌, length, get_or, map, take, drop, Some, sym, ap, ◌∙◌, subst, arith}
use Rattle.std.specs.Prelude.{All}
use Rattle.std.proofs.Math.Seq.{drop-cons}
use Rattle.std.proofs.lemmas.List.{take-append-drop, take_more, take_all, length-take-le, map-append, get_or-map, length-map}
use Rattle.std.proofs.lemmas.List.Elements.{All-push}
use Rattle.csv.specs.Records.{Row, fields_of}
use Rattle.hm_tree.specs.Names.{Name}
use Rattle.hm_tree.specs.Cleaned.{cleaned}
use Rattle.hm_tree.specs.Classes.{IsFilled}
use Rattle.hm_tree.specs.Nodes.{Tree}
use Rattle.hm_tree.proofs.Classed.{cleaned-cleaned, filled_text}
use Rattle.hm_tree.specs.Classes.{is_text}
use Rattle.hm_tree.proofs.Classed.{text_filled}
use Rattle.hm_csv_records.specs.Rows.{Fields}
use Rattle.hm_csv_columns.specs.declared.column.Column.{Column}
use Rattle.hm_csv.specs.Reading.{IsKeyed, IsFirstKeyless, IsItem, item_by}

-- a key that is a text isn't of spaces alone, and a key that isn't of spaces alone is a text
pub key_filled : (field : List ℕ) (name : Name) → name ≡ cleaned field → is_text name ≡ true → IsFilled (cleaned field)
key_filled field name is e = filled_text (cleaned field) (cleaned-cleaned field) (ap is_text (sym is) ∙ e)

pub key_spaces : (field : List ℕ) (name : Name) → name ≡ cleaned field → is_text name ≡ false → ¬ (IsFilled (cleaned field))
key_spaces field name is e filled =
    let yes : is_text (cleaned field) ≡ true = ap is_text (sym (cleaned-cleaned field)) ∙ text_filled (cleaned field) filled in
    let no : is_text (cleaned field) ≡ false = ap is_text (sym is) ∙ e in
    let bad : ⊥ = cc in
    bad

-- ---- record by record

module _ (key : ℕ) (columns : List Column) (all : List Row) (place : ℕ) (row : Row) (lt : place < length all) (is : row ≡ get_or all place row) where
  abbrev shown : List Fields
  shown = map fields_of all

  here : fields_of row ≡ get_or shown place (fields_of row)
  here = ap fields_of is ∙ sym (get_or-map fields_of all place row (fields_of row) lt)

  one_more : take (place + 1) shown ≡ take place shown ++ fields_of row ∷ []
  one_more =
      let lt2 = length-map all fields_of in
      take_more shown place (fields_of row) (omega (arith, lt, lt2)) ∙ ap (λ (r : Fields). take place shown ++ r ∷ []) (sym here)

  pub item_more : (items new : List (Name × Tree)) (item : Name × Tree) → items ≡ map (item_by key columns) (take place shown)
      → IsItem key columns (fields_of row) (Some item) → new ≡ items ++ item ∷ [] → new ≡ map (item_by key columns) (take (place + 1) shown)
  item_more items new item before found pushed =
      pushed ∙ ap (λ (es : List (Name × Tree)). es ++ item ∷ []) before
      ∙ ap (λ (e : Name × Tree). map (item_by key columns) (take place shown) ++ e ∷ []) found.1
      ∙ sym (map-append (item_by key columns) (take place shown) (fields_of row ∷ []))
      ∙ ap (map (item_by key columns)) (sym one_more)

  pub keyed_more : All (IsKeyed key) (take place shown) → IsKeyed key (fields_of row) → All (IsKeyed key) (take (place + 1) shown)
  keyed_more before one = subst (All (IsKeyed key)) (sym one_more) (All-push (IsKeyed key) (take place shown) (fields_of row) before one)

  pub keyless_here : All (IsKeyed key) (take place shown) → ¬ (IsKeyed key (fields_of row)) → IsFirstKeyless key shown (place + 2)
  keyless_here before none =
      let long = length-map all fields_of in
      let taken = length-take-le place shown (omega (arith, lt, long)) in
      record {
        before = take place shown;
        row = fields_of row;
        after = drop (suc place) shown;
        are =
            sym (take-append-drop place shown)
            ∙ ap (λ (rest : List Fields). take place shown ++ rest)
            (drop-cons shown place (fields_of row) (omega (arith, lt, long)) ∙ ap (λ (r : Fields). r ∷ drop (suc place) shown) (sym here));
        keyed = before;
        keyless = none;
        place = omega (arith, taken);
      }

pub all_keyed : (key : ℕ) (rows : List Fields) (place : ℕ) → length rows ≤ place → All (IsKeyed key) (take place rows) → All (IsKeyed key) rows
all_keyed key rows place le all = subst (All (IsKeyed key)) (take_all place rows le) all
