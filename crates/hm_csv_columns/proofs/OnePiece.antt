-- A field that is one piece shows the same texts in a column of many texts and in another one.
use Rattle.std.proofs.Common.{◌≡◌, ℕ, Bool, true, false, not, cond, ◌||◌, List, [], ◌∷◌, map, refl, sym, ap}
use Rattle.std.specs.List.{list_any}
use Rattle.std.specs.FinSet.{from_list}
use Rattle.hm_tree.specs.Names.{name_cmp}
use Rattle.hm_tree.specs.Cleaned.{cleaned}
use Rattle.hm_csv_fields.specs.Pieces.{is_special, pieces}
use Rattle.hm_csv_fields.specs.Texts.{is_shown, shown}
use Rattle.hm_csv_fields.proofs.Laws.{one_piece}
use Rattle.hm_csv_columns.specs.Fields.{texts_shown}

-- a piece that is empty shows nothing
nothing_shown : is_shown [] ≡ false
unfolding cleaned
nothing_shown = refl

same_shown : (field : List ℕ) → list_any is_special field ≡ false → shown (pieces field) ≡ shown (field ∷ [])
same_shown [] e = ap (λ b. map cleaned (cond b ([] ∷ []) [])) (sym nothing_shown)
same_shown (b ∷ rest) e = ap shown (one_piece (b ∷ rest) e)

pub one_piece_texts : (many : Bool) (field : List ℕ) → (not many || not (list_any is_special field)) ≡ true → texts_shown false field ≡ texts_shown many field
one_piece_texts false field e = refl
one_piece_texts true field e = ap (λ ns. from_list {R = name_cmp} ns) (sym (same_shown field (plain (list_any is_special field) e)))
  where
    plain : (b : Bool) → not b ≡ true → b ≡ false
    plain true e = let bad : ⊥ = cc in absurd bad
    plain false e = refl

-- a field that isn't, or may not be, stands in a column of many texts
pub many_here : (many plain : Bool) → (not many || plain) ≡ false → many ≡ true
many_here true plain e = refl
many_here false plain e = let bad : ⊥ = cc in absurd bad
