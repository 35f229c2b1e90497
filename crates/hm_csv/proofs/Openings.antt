-- The records of a sheet, of which the first is the header.
use Rattle.std.proofs.Common.{◌≡◌, List, [], ◌∷◌, map, slice_get, Some, subst, arith}
use Rattle.std.specs.Prelude.{All, IsUtf8}
use Rattle.csv.specs.Records.{Row, fields_of}
use Rattle.hm_tree.specs.Names.{Name}
use Rattle.hm_csv_records.specs.Rows.{IsHeader, AreGood}

module _ (row : Row) where
  pub header_good : (names : List Name) (rows : List Row) → Some row ≡ slice_get rows 0 → AreGood names (map fields_of rows) → IsHeader names (fields_of row)
  header_good names [] e good = let no : ⊥ = cc in absurd no
  header_good names (first ∷ rows) e good = let same : first ≡ row = cc in subst (λ r. IsHeader names (fields_of r)) same good.0

  pub header_text : (rows : List Row) → Some row ≡ slice_get rows 0 → All (λ r. All IsUtf8 (fields_of r)) rows → All IsUtf8 (fields_of row)
  header_text [] e all = let no : ⊥ = cc in absurd no
  header_text (first ∷ rows) e all = let same : first ≡ row = cc in subst (λ r. All IsUtf8 (fields_of r)) same (all 0 first (omega arith))
